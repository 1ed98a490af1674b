use Rattle.std.proofs.Common.{◌≡◌, ℕ, ◌<◌, List, Option, Some, Ok, sym, ap, subst, ◌∙◌}
use Rattle.std.specs.Option.{option_map}
use Rattle.std.proofs.lemmas.Option.{same_Some}
use Rattle.std.proofs.lemmas.List.Elements.{All-from_get_or}
use Rattle.kem_hash.specs.Family.{AreBytes}
use Rattle.ml_kem.specs.Encapsulation.{decaps, encaps}
use Rattle.ml_kem.specs.Expanded.{SecretKey, key_of_seed}
use Rattle.ml_kem.specs.Keys.{Key}
use Rattle.callers.proofs.agreed_secrets.both_secrets.Goals as goal

pub returns : goal.returns
returns g c = λ key there inside.
    let set = g.P.ParameterSet.set in
    let family = g.H.KemHash.family in
    let seed = c.args.seed.now in
    let m = c.args.message.now in
    let held = c.in_ok-key.key in
    let ct = c.in_ok-ciphertext.ciphertext in
    let same : key_of_seed seed key ≡ held = same_Some _ _ (subst (λ (o : Option Key). option_map (key_of_seed seed) o ≡ Some held) there c.in_ok-key.ensures.value) in
    let ek : key.ek ≡ c.encapsulation_key.result.now = ap (λ (k : SecretKey). k.ek) same ∙ sym c.encapsulation_key.ensures.value in
    let made : encaps set family key.ek m ≡ Some (ct, c.in_ok-ciphertext.sent) = subst (λ (e : List ℕ). encaps set family e m ≡ Some (ct, c.in_ok-ciphertext.sent)) (sym ek) c.in_ok-ciphertext.ensures.value in
    let received : decaps set family (key_of_seed seed key).s (key_of_seed seed key).ek (key_of_seed seed key).z ct ≡ Some c.in_ok-received.received =
    subst (λ (k : SecretKey). decaps set family k.s k.ek k.z ct ≡ Some c.in_ok-received.received) (sym same) c.in_ok-received.ensures.value in
    let bytes : AreBytes 32 m = record { size = c.told-message; each = All-from_get_or (λ (x : ℕ). x < 256) m 0 (λ i _. c.fits-message i) } in
    sym (same_Some _ _ (c.decapsulate_answers_the_shared_key.ensures set family seed m ct c.in_ok-ciphertext.sent key (Ok c.in_ok-received.received) g.P.ParameterSet.is_set there bytes made inside received))
