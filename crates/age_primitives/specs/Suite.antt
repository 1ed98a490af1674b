-- The key derivation function of hybrid encryption.
use Rattle.sha2.specs.Sha256.{sha256}
use Rattle.hpke.specs.Schedule.{KdfAlgorithm}

-- HKDF-SHA256 (RFC 9180, section 7.2)
abbrev pub hkdf_sha256 : KdfAlgorithm
hkdf_sha256 = record { hash = sha256; block_size = 64; digest_size = 32; kdf_id = 0x0001 }
