-- Short messages are sealed.
use Rattle.std.proofs.Common.{◌≡◌, ◌≢◌, ℕ, ◌≤◌, List, [], ◌∷◌, length, Option, Some, None, Err, sym, ◌∙◌, arith}
use Rattle.std.specs.Prelude.{All}
use Rattle.std.specs.List.{AllByRecursion}
use Rattle.std.proofs.lemmas.List.Elements.{recursion_from_All}
use Rattle.rand_core.specs.Stream.{Stream, fill_bytes}
use Rattle.gcm_core.specs.Aes.{aes}
use Rattle.gcm_core.specs.Gcm.{seal_of}
use Rattle.gcm_core.proofs.Sealing.{fits_limits-Decides, gcm_ae-within}
use Rattle.kem_hash.specs.Family.{Family}
use Rattle.ml_kem.specs.Parameters.{Parameters}
use Rattle.hpke.specs.Schedule.{KdfAlgorithm, AeadAlgorithm}
use Rattle.kem_mail.specs.Sealing.{first_unsealed, lattice_sealer}
use Rattle.kem_mail.specs.Sent.{SealsMail}
use Rattle.kem_mail.specs.declared.error.SealMailError.{SealMailError}
use Rattle.kem_mail.specs.declared.error.SealMailError.TheVariants.{NoMemory, XofExhausted, SealError, WriteFault}
use Rattle.kem_mail.proofs.SentMails.{first_unsealed-each}

seals_short : (text key nonce : List ℕ) → length text ≤ 32768 → seal_of key nonce [] text ≢ None
seals_short text key nonce short e =
    let fits = (fits_limits-Decides [] text).1 (omega (arith, short), omega arith) in
    let there = gcm_ae-within (aes key) nonce [] text fits in
    (let never = sym there ∙ e in cc never)

-- each message has a sealed text
pub all_sealed : (set : Parameters) (family : Family) (kdf : KdfAlgorithm) (aead : AeadAlgorithm) (key info draw : List ℕ) (messages : List (List ℕ)) → All (λ m. length m ≤ 32768) messages
    → first_unsealed (lattice_sealer set family kdf aead seal_of key info) messages draw ≡ None
all_sealed set family kdf aead key info draw messages short =
    first_unsealed-each (lattice_sealer set family kdf aead seal_of key info) messages draw (each messages (recursion_from_All (λ m. length m ≤ 32768) messages short))
  where
    each : (ms : List (List ℕ)) → AllByRecursion (λ m. length m ≤ 32768) ms → AllByRecursion (λ m. (k n : List ℕ) → seal_of k n [] m ≢ None) ms
    each [] h = tt
    each (m ∷ ms) h = ((λ k n. seals_short m k n h.0), each ms h.1)

-- and so sealing short messages is refused for another reason
pub never_unsealed : {W : Type 0} (X : Type 0) (got : W → Option (List ℕ)) (faults : W → ℕ) (plan : W → List ℕ) (before now : W) (set : Parameters) (family : Family) (kdf : KdfAlgorithm) (aead : AeadAlgorithm) (key info : List ℕ)
    (messages : List (List ℕ)) (stream rest : Stream) (e : SealMailError) → All (λ m. length m ≤ 32768) messages
    → SealsMail got faults plan before now (lattice_sealer set family kdf aead seal_of key info) messages stream rest {X = X} (Err e) → (number : ℕ) → e ≡ SealError number → ⊥
never_unsealed X got faults plan before now set family kdf aead key info messages stream rest (SealError n) short sealed number is =
    let one : Some n ≡ None = sym sealed.sealed ∙ all_sealed set family kdf aead key info (fill_bytes 32 stream).0 messages short in cc one
never_unsealed X got faults plan before now set family kdf aead key info messages stream rest NoMemory short sealed number is = cc is
never_unsealed X got faults plan before now set family kdf aead key info messages stream rest WriteFault short sealed number is = cc is
never_unsealed X got faults plan before now set family kdf aead key info messages stream rest XofExhausted short sealed number is = cc is
