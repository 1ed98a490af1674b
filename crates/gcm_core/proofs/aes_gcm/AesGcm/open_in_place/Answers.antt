use Rattle.std.proofs.Common.{◌≡◌, ℕ, List, replicate, take, sym, ap, ◌∙◌}
use Rattle.gcm_core.specs.Aes.{aes, cipher}
use Rattle.gcm_core.specs.Ghash.{polynomial_of}
use Rattle.gcm_core.proofs.Sealing.{cipher-aes}
use Rattle.gcm_core.proofs.aes_gcm.AesGcm.open_in_place.Goals as goal

pub open-requires-clause-subkey : goal.open-requires-clause-subkey
open-requires-clause-subkey g c =
    let w : List ℕ = c.self.inside.round_keys in
    let zeros : List ℕ = replicate 16 0 in
    c.self.invariant.1 ∙ ap (λ (f : List ℕ → List ℕ). polynomial_of (f zeros)) (sym (cipher-aes (take g.row.KEY_SIZE w) w c.self.invariant.0))

pub returns-clause-opened : goal.returns-clause-opened
returns-clause-opened g c =
    let w : List ℕ = c.self.inside.round_keys in
    let same : cipher w ≡ aes c.args.self.now = cipher-aes (take g.row.KEY_SIZE w) w c.self.invariant.0 ∙ ap aes c.self.view_is in
    rw same at c.open.ensures.opened

pub returns-clause-refused : goal.returns-clause-refused
returns-clause-refused g c =
    let w : List ℕ = c.self.inside.round_keys in
    let same : cipher w ≡ aes c.args.self.now = cipher-aes (take g.row.KEY_SIZE w) w c.self.invariant.0 ∙ ap aes c.self.view_is in
    rw same at c.open.ensures.refused

pub returns-clause-not_authentic : goal.returns-clause-not_authentic
returns-clause-not_authentic g c =
    let w : List ℕ = c.self.inside.round_keys in
    let same : cipher w ≡ aes c.args.self.now = cipher-aes (take g.row.KEY_SIZE w) w c.self.invariant.0 ∙ ap aes c.self.view_is in
    rw same at c.open.ensures.not_authentic
