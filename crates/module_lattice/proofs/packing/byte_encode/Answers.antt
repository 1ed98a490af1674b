use Rattle.std.proofs.Common.{◌≡◌, ℕ, ◌*◌, ◌/◌, arith, refl}
use Rattle.module_lattice.specs.Groups.{groups}
use Rattle.module_lattice.proofs.Regrouping.{regroup_all, regroup_more, regroup_none}
use Rattle.module_lattice.proofs.Units.{byte-room, bytes-done, value-room, values-done, whole-bytes}
use Rattle.module_lattice.proofs.packing.byte_encode.Goals as goal

pub loop-unit-init : goal.loop-unit-init
unfolding groups
loop-unit-init g c =
    let v : ℕ = c.values_in_unit-value_count.result in
    regroup_none c.args.d 8 v (c.args.d * v / 8) c.args.values.now c.args.out.now

pub slice_bounds-pack_unit-end-in-loop-unit : goal.slice_bounds-pack_unit-end-in-loop-unit
slice_bounds-pack_unit-end-in-loop-unit g c =
    let d : ℕ = c.args.d in
    let v : ℕ = c.values_in_unit-value_count.result in
    omega (arith, byte-room d v (d * v / 8) c.loop-unit.unit (whole-bytes d v c.values_in_unit-value_count.ensures.whole_bytes) c.loop-unit-test.true, c.requires.room, c.loop-unit.auto.out)

pub loop-unit-preserved : goal.loop-unit-preserved
unfolding groups
loop-unit-preserved g c =
    let d : ℕ = c.args.d in
    let v : ℕ = c.values_in_unit-value_count.result in
    let b : ℕ = d * v / 8 in
    let u : ℕ = c.loop-unit.unit in
    let whole : d * v ≡ 8 * b = whole-bytes d v c.values_in_unit-value_count.ensures.whole_bytes in
    regroup_more d 8 v b u _ _ c.args.values.now c.loop-unit.out c.pack_unit.new.out (omega arith) whole
    (omega (arith, value-room v u c.loop-unit-test.true, c.requires.values))
    (omega (arith, byte-room d v b u whole c.loop-unit-test.true, c.requires.room, c.loop-unit.auto.out))
    refl refl c.pack_unit.ensures c.loop-unit.invariant

pub returns : goal.returns
unfolding groups
returns g c =
    let d : ℕ = c.args.d in
    let v : ℕ = c.values_in_unit-value_count.result in
    let b : ℕ = d * v / 8 in
    let u : ℕ = c.loop-unit.unit in
    let whole : d * v ≡ 8 * b = whole-bytes d v c.values_in_unit-value_count.ensures.whole_bytes in
    let all : v * u ≡ 256 = values-done v u c.values_in_unit-value_count.ensures.whole_units.1 c.loop-unit.auto.unit-end c.loop-unit-test.false in
    regroup_all d 8 (b * u) (v * u) c.args.values.now c.loop-unit.out c.loop-unit.invariant
    (omega (arith, bytes-done d v b u whole all, c.requires.room, c.loop-unit.auto.out)) (omega (arith, all, c.requires.values))
