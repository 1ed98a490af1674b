-- What is made of a number of messages: a random source, the seed of a key, the messages, and the mail to the key.
use Rattle.std.specs.Prelude.{ℕ, ◌%◌, List, [], ◌++◌, map, replicate}
use Rattle.std.specs.List.{range_with_len}
use Rattle.std.specs.Int.{w64, to_le_bytes}
use Rattle.sha2.specs.Sha256.{sha256}
use Rattle.gcm_core.specs.Gcm.{seal_of}
use Rattle.rand_core.specs.Steps.{stream_of, steps_u32}
use Rattle.rand_core.specs.Stream.{Stream, fill_bytes}
use Rattle.rand_chacha.specs.ChaCha.{next_word, of_seed}
use Rattle.kem_hash.specs.Family.{Family}
use Rattle.ml_kem.specs.Parameters.{ml_kem_768}
use Rattle.hpke.specs.Schedule.{KdfAlgorithm, AeadAlgorithm}
use Rattle.kem_mail.specs.Sealing.{Sealer, lattice_sealer}
use Rattle.kem_mail.specs.Sent.{mail_text}

-- HKDF-SHA256 and AES-256-GCM (RFC 9180, sections 7.2 and 7.3)
abbrev pub hkdf_sha256 : KdfAlgorithm
hkdf_sha256 = record { hash = sha256; block_size = 64; digest_size = 32; kdf_id = 1 }

abbrev pub aes_256_gcm : AeadAlgorithm
aes_256_gcm = record { key_size = 32; nonce_size = 12; aead_id = 2 }

-- what the random source of a seed of 32 bytes gives: ChaCha of 20 rounds
unfoldable pub source_stream : List ℕ → Stream
source_stream seed = stream_of (steps_u32 (next_word 10)) (of_seed seed)

-- the seed of the random source: the number of messages in 8 bytes, the low byte first, and 24 zeros
abbrev pub generated_seed : ℕ → List ℕ
generated_seed count = to_le_bytes w64 count ++ replicate 24 0

-- the seed of the key: the first 64 bytes that the source gives
abbrev pub generated_key_seed : ℕ → List ℕ
generated_key_seed count = (fill_bytes 64 (source_stream (generated_seed count))).0

-- message i: i mod 97 bytes, each i mod 256
abbrev pub generated_message : ℕ → List ℕ
generated_message i = replicate (i % 97) (i % 256)

-- so many messages, from number 0 on
abbrev pub generated_messages : ℕ → List (List ℕ)
generated_messages count = map generated_message (range_with_len 0 count)

-- how they are sealed to an encapsulation key of ML-KEM-768: with empty info, HKDF-SHA256 and AES-256-GCM
abbrev pub generated_sealer : Family → List ℕ → Sealer
generated_sealer family ek = lattice_sealer ml_kem_768 family hkdf_sha256 aes_256_gcm seal_of ek []

-- the text of the mail to an encapsulation key, as the source draws it behind the key's seed
unfoldable pub generated_text : Family → ℕ → List ℕ → List ℕ
generated_text family count ek = mail_text (generated_sealer family ek) (generated_messages count) (fill_bytes 64 (source_stream (generated_seed count))).1
