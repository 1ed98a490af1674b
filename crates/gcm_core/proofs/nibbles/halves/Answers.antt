use Rattle.std.proofs.Common.{refl}
use Rattle.gcm_core.specs.declared.nibbles.TheConstants.{SCALED}
use Rattle.gcm_core.proofs.Lanes.{looked, places}
use Rattle.gcm_core.proofs.HalfBytes.{both, both_is, first_is, high, high_of_block, low, low_of_block, met, met_is, second_is}
use Rattle.gcm_core.proofs.nibbles.halves.Goals as goal

pub look_up-r-requires : goal.look_up-r-requires
look_up-r-requires c = places low c.args.t _ c.fits-t (low_of_block c.args.t c.fits-t) refl

pub look_up-requires : goal.look_up-requires
look_up-requires c = places high c.args.t _ c.fits-t (high_of_block c.args.t c.fits-t) refl

pub look_up-requires-2 : goal.look_up-requires-2
look_up-requires-2 c =
    let t = c.args.t in
    let r = looked SCALED low t _ _ c.«look_up-r».ensures (low_of_block t c.fits-t) in
    places (met high) t _ c.fits-t (met_is high t _ _ _ r c.look_up.ensures (high_of_block t c.fits-t)) refl

pub look_up-requires-3 : goal.look_up-requires-3
look_up-requires-3 c = places both c.args.t _ c.fits-t (both_is c.args.t c.fits-t) refl

pub look_up-requires-4 : goal.look_up-requires-4
look_up-requires-4 c =
    let t = c.args.t in
    let r = looked SCALED low t _ _ c.«look_up-r».ensures (low_of_block t c.fits-t) in
    places (met both) t _ c.fits-t (met_is both t _ _ _ r c.«look_up-3».ensures (both_is t c.fits-t)) refl

pub returns : goal.returns
returns c =
    let t = c.args.t in
    let r = looked SCALED low t _ _ c.«look_up-r».ensures (low_of_block t c.fits-t) in
    let v = met_is high t _ _ _ r c.look_up.ensures (high_of_block t c.fits-t) in
    let w = met_is both t _ _ _ r c.«look_up-3».ensures (both_is t c.fits-t) in
    rw (first_is t _ _ _ c.«look_up-2».ensures v (both_is t c.fits-t), second_is t _ _ _ c.«look_up-4».ensures w (high_of_block t c.fits-t)) refl
