use Rattle.std.proofs.Common.{◌≡◌, ℕ, ◌*◌, ◌/◌, arith, refl, sym}
use Rattle.module_lattice.specs.Groups.{ungroup}
use Rattle.module_lattice.proofs.Regrouping.{regroup_all, regroup_more, regroup_none}
use Rattle.module_lattice.proofs.Units.{byte-room, bytes-done, value-room, values-done, whole-bytes}
use Rattle.module_lattice.proofs.packing.unpack.Goals as goal

pub loop-unit-init : goal.loop-unit-init
unfolding ungroup
loop-unit-init c =
    let v : ℕ = c.values_in_unit-value_count.result in
    regroup_none 8 c.args.d (c.args.d * v / 8) v c.args.bytes.now c.args.out.now

pub slice_bounds-unpack_unit-end : goal.slice_bounds-unpack_unit-end
slice_bounds-unpack_unit-end c =
    let d : ℕ = c.args.d in
    let v : ℕ = c.values_in_unit-value_count.result in
    omega (arith, byte-room d v (d * v / 8) c.loop-unit.unit (whole-bytes d v c.values_in_unit-value_count.ensures.whole_bytes) c.loop-unit-test.true, c.requires.bytes)

pub loop-unit-preserved : goal.loop-unit-preserved
unfolding ungroup
loop-unit-preserved c =
    let d : ℕ = c.args.d in
    let v : ℕ = c.values_in_unit-value_count.result in
    let b : ℕ = d * v / 8 in
    let u : ℕ = c.loop-unit.unit in
    let whole : d * v ≡ 8 * b = whole-bytes d v c.values_in_unit-value_count.ensures.whole_bytes in
    regroup_more 8 d b v u _ _ c.args.bytes.now c.loop-unit.out c.unpack_unit.new.out c.requires.positive (sym whole)
    (omega (arith, byte-room d v b u whole c.loop-unit-test.true, c.requires.bytes))
    (omega (arith, value-room v u c.loop-unit-test.true, c.requires.room, c.loop-unit.auto.out))
    refl refl c.unpack_unit.ensures c.loop-unit.invariant

pub returns : goal.returns
unfolding ungroup
returns c =
    let d : ℕ = c.args.d in
    let v : ℕ = c.values_in_unit-value_count.result in
    let b : ℕ = d * v / 8 in
    let u : ℕ = c.loop-unit.unit in
    let whole : d * v ≡ 8 * b = whole-bytes d v c.values_in_unit-value_count.ensures.whole_bytes in
    let all : v * u ≡ 256 = values-done v u c.values_in_unit-value_count.ensures.whole_units.1 c.loop-unit.auto.unit-end c.loop-unit-test.false in
    regroup_all 8 d (v * u) (b * u) c.args.bytes.now c.loop-unit.out c.loop-unit.invariant
    (omega (arith, all, c.requires.room, c.loop-unit.auto.out)) (omega (arith, bytes-done d v b u whole all, c.requires.bytes))
