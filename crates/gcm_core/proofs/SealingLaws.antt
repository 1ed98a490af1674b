-- The two laws of sealing and opening under a key, for crates above that owe them of a trait.
use Rattle.std.proofs.Common.{◌≡◌, ◌↔◌, ℕ, ◌+◌, List, Some, length}
use Rattle.gcm_core.specs.Aes.{aes}
use Rattle.gcm_core.specs.Gcm.{open_of, seal_of}
use Rattle.gcm_core.proofs.Sealing.{length-aes, length_sealed, opens-seals}

pub open_of-seal_of : (key nonce aad text sealed : List ℕ) → (open_of key nonce aad sealed ≡ Some text) ↔ (seal_of key nonce aad text ≡ Some sealed)
open_of-seal_of key nonce aad text sealed = opens-seals (aes key) nonce aad text sealed (length-aes key)

pub length-seal_of : (key nonce aad text sealed : List ℕ) → seal_of key nonce aad text ≡ Some sealed → length sealed ≡ length text + 16
length-seal_of key nonce aad text sealed = length_sealed (aes key) nonce aad text sealed (length-aes key)
