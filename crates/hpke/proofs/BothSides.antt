-- One key schedule on both sides.
use Rattle.std.proofs.Common.{◌≡◌, ℕ, List, Option, Some, None, refl, sym, ap, ◌∙◌}
use Rattle.std.proofs.lemmas.Option.{none-some, same_Some}
use Rattle.hpke.specs.Schedule.{Suite, Mode, Context, schedule, sender_setup, receiver_setup}

-- where the modes bring the same and decapsulation gives the secret that encapsulation gave
pub both_sides : (suite : Suite) (mode_s mode_r : Mode) (info : List ℕ) (encap : Option (List ℕ × List ℕ)) (decap : List ℕ → Option (List ℕ))
    (enc : List ℕ) (sender recipient : Context)
    → sender_setup suite mode_s info encap ≡ Some (enc, sender)
    → receiver_setup suite mode_r info (decap enc) ≡ Some recipient
    → mode_s ≡ mode_r
    → ((secret enc : List ℕ) → encap ≡ Some (secret, enc) → decap enc ≡ Some secret)
    → sender ≡ recipient
both_sides suite mode_s mode_r info None decap enc sender recipient sent got alike found = absurd (none-some _ sent)
both_sides suite mode_s mode_r info (Some made) decap enc sender recipient sent got alike found =
    let pair : (made.1, schedule suite mode_s.number made.0 info mode_s.psk mode_s.psk_id) ≡ (enc, sender) = same_Some _ _ sent in
    let same_enc : made.1 ≡ enc = ap (λ (p : List ℕ × Context). p.0) pair in
    let secret : decap enc ≡ Some made.0 = rw (← same_enc) (found made.0 made.1 refl) in
    let context : schedule suite mode_r.number made.0 info mode_r.psk mode_r.psk_id ≡ recipient = same_Some _ _ (rw secret at got) in
    sym (ap (λ (p : List ℕ × Context). p.1) pair) ∙ rw alike context
