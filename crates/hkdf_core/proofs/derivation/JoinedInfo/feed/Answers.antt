use Rattle.std.proofs.Common.{◌≡◌, ℕ, List, ◌++◌, ap, ◌∙◌, subst, append_assoc}
use Rattle.hkdf_core.specs.Fed.{HmacHolds}
use Rattle.hkdf_core.proofs.derivation.JoinedInfo.feed.Goals as goal

-- five pieces after a text are one piece after it
append_five : (text a b c d e : List ℕ) → text ++ a ++ b ++ c ++ d ++ e ≡ text ++ (a ++ b ++ c ++ d ++ e)
append_five text a b c d e = simp append_assoc

pub returns : goal.returns
returns g c = λ key text held.
    let info = c.self.inside in
    let Held : List ℕ → Type 0 = λ fed. HmacHolds g.T.HkdfHash.holds g.T.HkdfHash.hash_of g.T.HkdfHash.BLOCK_SIZE c.update-5.new.self key fed in
    let after_a = c.update.ensures key text held in
    let after_b = c.update-2.ensures key _ after_a in
    let after_c = c.update-3.ensures key _ after_b in
    let after_d = c.update-4.ensures key _ after_c in
    let after_e = c.update-5.ensures key _ after_d in
    let joined = append_five text info.a.now info.b.now info.c.now info.d.now info.e.now in
    subst Held (joined ∙ ap (λ (whole : List ℕ). text ++ whole) c.self.view_is) after_e
