use Rattle.std.proofs.Common.{◌≡◌, ◌≢◌, ◌≤◌, ◌%◌, ◌++◌, ◌⊎◌, ℕ, true, [], ◌∷◌, length, Ok, inl, inr, sym, ◌∙◌, arith, Vec, Global}
use Rattle.std.proofs.lemmas.List.{length_push}
use Rattle.std.proofs.lemmas.Result.{err_from_is_err_and}
use Rattle.hex.specs.Hex.{is_hex_digit}
use Rattle.kem_mail.specs.declared.error.MailError.TheVariants.{NoMemory}
use Rattle.mail_commands.specs.declared.error.RunError.TheVariants.{Place, Mail}
use Rattle.mail_commands.proofs.Inputs.{Lost_then, line_stopped, line_refused, line_memory, line_fails, line_decoded, line_sized, digit_from_ascii, no_digit_from_ascii, digits_pushed}
use Rattle.mail_commands.proofs.input.line_or_end.Goals as goal
use Rattle.mail_commands.proofs.input.line_or_end.Goals.{else-byte-eq10-via-then-byte-eq10+then-count-least+else-count-eq0, else-byte-eq10-via-then-byte-eq10+else-count-least, else-byte-eq10-via-else-byte-eq10}
use Rattle.mail_commands.proofs.input.line_or_end.Goals.{then-count-most-via-then-count-most, then-count-most-via-else-count-most+then-not-is_ascii_hexdigit}

pub returns-in-Err-clause-taken : goal.returns-in-Err-clause-taken
returns-in-Err-clause-taken g c =
    let left = g.S.Source.left in
    let inv = c.loop-byte.invariant in
    let count : c.len-count.result ≡ length c.loop-byte.digits.items = omega (arith, c.loop-byte.digits.ok.0, c.len-count.ensures) in
    line_stopped (Vec ℕ Global) (λ v. v.items) c.none_in_front.result (left c.args.src.now) (left c.loop-byte.src) (left c.next_byte.new.src) c.args.least c.args.most c.loop-byte.digits.items c.len-count.result c.in-Err.error
    c.requires.range c.requires.even inv.within inv.all count inv.taken c.in-Err.ensures.taken c.in-Err.ensures.refused c.none_in_front.ensures.none c.none_in_front.ensures.refused

pub returns-in_err-bytes-clause-taken : goal.returns-in_err-bytes-clause-taken
returns-in_err-bytes-clause-taken g c =
    let left = g.S.Source.left in
    let inv = c.loop-byte.invariant in
    let p = err_from_is_err_and c.from_residual.result c.from_residual.ensures.1 in
    rw (p.1, p.2, c.in_err-bytes.ensures.memory)
    (line_refused (Vec ℕ Global) (λ v. v.items) (left c.args.src.now) (left c.next_byte.new.src) c.args.least c.args.most (Mail NoMemory)
    (line_memory (left c.args.src.now) (left c.loop-byte.src) (left c.next_byte.new.src) c.args.least c.args.most c.loop-byte.digits.items c.requires.range c.requires.even inv.within inv.all 10 inv.taken (rw c.if-byte-eq10.true at c.in-Ok.ensures.taken)) (λ e. cc e))

pub returns-then-count-eq0-clause-taken : goal.returns-then-count-eq0-clause-taken
returns-then-count-eq0-clause-taken g c =
    let left = g.S.Source.left in
    let inv = c.loop-byte.invariant in
    let enough : c.args.least ≤ length c.loop-byte.digits.items = omega (arith, c.loop-byte.digits.ok.0, c.len-count.ensures, c.if-count-least.true) in
    line_decoded (Vec ℕ Global) (λ v. v.items) (Ok c.in_ok-bytes.bytes) (left c.args.src.now) (left c.loop-byte.src) (left c.next_byte.new.src) c.args.least c.args.most c.loop-byte.digits.items
    c.requires.range c.requires.even inv.within inv.all inv.taken (rw c.if-byte-eq10.true at c.in-Ok.ensures.taken) enough (rw c.deref.ensures.value at c.in_ok-bytes.ensures.value) tt

pub returns-then-count-eq0-clause-sized : goal.returns-then-count-eq0-clause-sized
returns-then-count-eq0-clause-sized g c =
    let enough : c.args.least ≤ length c.loop-byte.digits.items = omega (arith, c.loop-byte.digits.ok.0, c.len-count.ensures, c.if-count-least.true) in
    line_sized (Vec ℕ Global) (λ v. v.items) (Ok c.in_ok-bytes.bytes) c.args.least c.args.most c.loop-byte.digits.items enough c.loop-byte.invariant.within (rw c.deref.ensures.value at c.in_ok-bytes.ensures.value)

pub returns-then-count-most-clause-taken : goal.returns-then-count-most-clause-taken
returns-then-count-most-clause-taken g c =
    let left = g.S.Source.left in
    let inv = c.loop-byte.invariant in
    let ds = c.loop-byte.digits.items in
    let b = c.in-Ok.byte in
    let count : c.len-count.result ≡ length ds = omega (arith, c.loop-byte.digits.ok.0, c.len-count.ensures) in
    let stop : (is_hex_digit b ≢ true) ⊎ (c.args.most ≤ length ds) =
    elim c.then-count-most.branch [
      | then-count-most-via-then-count-most w ↦ inr (omega (arith, count, w.if-count-most.true))
      | then-count-most-via-else-count-most+then-not-is_ascii_hexdigit w ↦ inl (no_digit_from_ascii b (sym w.is_ascii_hexdigit.ensures.value ∙ w.if-not-is_ascii_hexdigit.true))
    ] in
    let no_end : b ≡ 10 → c.args.least ≤ length ds → length ds % 2 ≡ 0 → ⊥ = λ ten enough even.
    elim c.else-byte-eq10.branch [
      | else-byte-eq10-via-then-byte-eq10+then-count-least+else-count-eq0 w ↦ omega (arith, count, even, w.if-count-eq0.false)
      | else-byte-eq10-via-then-byte-eq10+else-count-least w ↦ omega (arith, count, enough, w.if-count-least.false)
      | else-byte-eq10-via-else-byte-eq10 w ↦ omega (arith, ten, w.if-byte-eq10.false)
    ] in
    rw count
    (line_refused (Vec ℕ Global) (λ v. v.items) (left c.args.src.now) (left c.next_byte.new.src) c.args.least c.args.most (Place (length ds))
    (line_fails (left c.args.src.now) (left c.loop-byte.src) (left c.next_byte.new.src) c.args.least c.args.most ds c.requires.range c.requires.even inv.within inv.all b inv.taken c.in-Ok.ensures.taken stop no_end) (λ e. cc e))

pub loop-byte-preserved : goal.loop-byte-preserved
loop-byte-preserved g c =
    let left = g.S.Source.left in
    let inv = c.loop-byte.invariant in
    let ds = c.loop-byte.digits.items in
    let b = c.in-Ok.byte in
    let items = c.in_ok-push.ensures.items in
    let digit = digit_from_ascii b (sym c.is_ascii_hexdigit.ensures.value ∙ c.if-not-is_ascii_hexdigit.false) in
    record {
      taken = rw items (Lost_then (left c.args.src.now) (left c.loop-byte.src) (left c.next_byte.new.src) (λ t. t ≡ ds) (λ t. t ≡ b ∷ []) (λ t. t ≡ ds ++ b ∷ []) inv.taken c.in-Ok.ensures.taken (λ a c p q. cc));
      all = rw items (digits_pushed ds b inv.all digit);
      within = rw items (omega (arith, length_push ds b, c.loop-byte.digits.ok.0, c.len-count.ensures, c.if-count-most.false));
      no_fault = c.in-Ok.ensures.no_fault (λ e. cc e) ∙ inv.no_fault;
    }

pub returns-in_err-push-clause-taken : goal.returns-in_err-push-clause-taken
returns-in_err-push-clause-taken g c =
    let left = g.S.Source.left in
    let inv = c.loop-byte.invariant in
    let p = err_from_is_err_and c.from_residual-in_err-push.result c.from_residual-in_err-push.ensures.1 in
    rw (p.1, p.2)
    (line_refused (Vec ℕ Global) (λ v. v.items) (left c.args.src.now) (left c.next_byte.new.src) c.args.least c.args.most (Mail NoMemory)
    (line_memory (left c.args.src.now) (left c.loop-byte.src) (left c.next_byte.new.src) c.args.least c.args.most c.loop-byte.digits.items c.requires.range c.requires.even inv.within inv.all c.in-Ok.byte inv.taken c.in-Ok.ensures.taken) (λ e. cc e))
