-- The key schedule, step by step.
use Rattle.std.proofs.Common.{◌≡◌, ℕ, List, [], ◌∷◌, ◌++◌, Some}
use Rattle.std.specs.Prelude.{codes}
use Rattle.hkdf_core.specs.Hmac.{key_block}
use Rattle.hpke.specs.Labels.{labeled_extract, labeled_expand}
use Rattle.hpke.specs.Schedule.{Suite, Context, suite_id, schedule, schedule_context, export_of}

-- what an expansion, seen by its key's block, gives under a label
abbrev pub Expands : Suite → List ℕ → List ℕ → List ℕ → List ℕ → ℕ → List ℕ → Type 0
Expands s hkdf id label info len out = (prk : List ℕ) → hkdf ≡ key_block s.kdf.hash s.kdf.block_size prk
    → out ≡ labeled_expand s.kdf.hash s.kdf.block_size prk id label info len

-- the context of the schedule, over the hashes of both texts
pub schedule_context-is : (s : Suite) (mode : ℕ) (info psk_id id psk_id_hash info_hash context : List ℕ)
    → id ≡ suite_id s
    → psk_id_hash ≡ labeled_extract s.kdf.hash s.kdf.block_size [] id (codes "psk_id_hash") psk_id
    → info_hash ≡ labeled_extract s.kdf.hash s.kdf.block_size [] id (codes "info_hash") info
    → context ≡ mode ∷ psk_id_hash ++ info_hash
    → context ≡ schedule_context s mode info psk_id
unfolding schedule_context
schedule_context-is s mode info psk_id id psk_id_hash info_hash context suite first second whole = cc

-- the schedule, over its context and its three expansions
pub schedule-is : (s : Suite) (mode : ℕ) (shared info psk psk_id id context secret key nonce exporter : List ℕ) (key_size nonce_size digest_size : ℕ)
    → key_size ≡ s.aead.key_size → nonce_size ≡ s.aead.nonce_size → digest_size ≡ s.kdf.digest_size
    → id ≡ suite_id s
    → context ≡ schedule_context s mode info psk_id
    → secret ≡ key_block s.kdf.hash s.kdf.block_size (labeled_extract s.kdf.hash s.kdf.block_size shared id (codes "secret") psk)
    → Expands s secret id (codes "key") context key_size key
    → Expands s secret id (codes "base_nonce") context nonce_size nonce
    → Expands s secret id (codes "exp") context digest_size exporter
    → (let made : Context = record { key = key; base_nonce = nonce; exporter_secret = exporter; next = Some 0 } in made) ≡ schedule s mode shared info psk psk_id
unfolding schedule
schedule-is s mode shared info psk psk_id id context secret key nonce exporter key_size nonce_size digest_size ks ns ds suite whole is k n e =
    let key_is = k _ is in
    let nonce_is = n _ is in
    let exporter_is = e _ is in
    cc

-- an exported secret, over the exporter secret's bytes
pub export-is : (s : Suite) (context : Context) (exporter_context id secret out : List ℕ) (len : ℕ)
    → id ≡ suite_id s → secret ≡ context.exporter_secret
    → out ≡ labeled_expand s.kdf.hash s.kdf.block_size secret id (codes "sec") exporter_context len
    → out ≡ export_of s context exporter_context len
export-is s context exporter_context id secret out len suite same expanded = rw (suite, same) at expanded
