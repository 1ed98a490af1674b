-- The lines of a body, one by one.
use Rattle.std.proofs.Common.{◌≡◌, ℕ, ◌+◌, ◌*◌, ◌/◌, ◌<◌, ◌≤◌, List, [], ◌∷◌, ◌++◌, length, take, drop, sym, ap, ◌∙◌, append_assoc, arith}
use Rattle.std.proofs.lemmas.List.{append-nil, length-take, take_at, take-append-drop}
use Rattle.base64.specs.GeneralPurpose.{IsEncodedOver, encode_of}
use Rattle.base64.specs.Engines.{standard_no_pad}
use Rattle.age_format.specs.Stanza.{base64, body_lines}
use Rattle.age_format.proofs.Lines.{body_lines-full, body_lines-last, length-base64}

-- what the engine encodes
pub encodes_as : (bytes : List ℕ) → encode_of standard_no_pad bytes ≡ base64 bytes
encodes_as bytes = append-nil (base64 bytes)

-- a line that doesn't fill is the last
pub last_line : (body : List ℕ) → length body < 48 → body_lines body ≡ base64 body ++ 10 ∷ []
last_line body short = body_lines-last body (omega (arith, length-base64 body))

-- a full line, and those behind it
pub full_line : (body : List ℕ) → 48 ≤ length body → body_lines body ≡ (base64 (take 48 body) ++ 10 ∷ []) ++ body_lines (drop 48 body)
full_line body long =
    let front = take 48 body in
    let back = drop 48 body in
    ap body_lines (sym (take-append-drop 48 body))
    ∙ (body_lines-full front back (omega (arith, length-take 48 body)) ∙ sym (append_assoc (base64 front) (10 ∷ []) (body_lines back)))

-- what the engine wrote at the front of a buffer
pub encoded_front : (bytes old new : List ℕ) (n : ℕ) → IsEncodedOver standard_no_pad bytes old new → n ≡ (4 * length bytes + 2) / 3 → take n new ≡ base64 bytes
encoded_front bytes old new n written size =
    let behind = drop ((4 * length bytes + 2) / 3) old in
    ap (take n) written ∙ (ap (λ (t : List ℕ). take n (t ++ behind)) (encodes_as bytes) ∙ take_at (base64 bytes) behind n (length-base64 bytes ∙ sym size))
