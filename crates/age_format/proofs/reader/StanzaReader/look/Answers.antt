use Rattle.std.proofs.Common.{◌≡◌, ℕ, List, ◌-◌, ◌++◌, length, drop, sym, ap, subst, ◌∙◌, arith}
use Rattle.age_format.specs.declared.format.Stanza.{Stanza as Held-Stanza}
use Rattle.age_format.specs.Stanza.{Stanza, stanza_of, IsBytes, IsStanza, IsFront, spelling}
use Rattle.age_format.specs.Front.{IsMalformed}
use Rattle.age_format.specs.Receiving.{Held}
use Rattle.age_format.specs.private.Scan.{IsScannedTo}
use Rattle.age_format.proofs.Stanzas.{stanza_sound}
use Rattle.age_format.proofs.Looks.{scanned_front, scanned_broken, scanned_none, nothing_scanned, behind_given, rest_within}
use Rattle.age_format.proofs.reader.StanzaReader.look.Goals as goal

given_as : (before now : List ℕ) (s : Stanza) (found stanza : Held-Stanza) → found ≡ stanza → stanza_of found ≡ s → IsStanza s → before ≡ spelling s ++ now → IsStanza (stanza_of stanza) × (before ≡ spelling (stanza_of stanza) ++ now)
given_as before now s found stanza same owned is text =
    subst (λ (x : Stanza). IsStanza x × (before ≡ spelling x ++ now)) (sym owned ∙ ap stanza_of same) (is, text)

pub returns-in-Text-clause-front : goal.returns-in-Text-clause-front
returns-in-Text-clause-front c e =
    let held = c.behind-held.result.now in
    let bytes : drop c.self.inside.given c.self.inside.buffer.items ≡ c.args.self.now.bytes = ap (λ (v : Held). v.bytes) c.self.view_is in
    let same : held ≡ c.args.self.now.bytes = c.behind-held.ensures.value ∙ bytes in
    let front = scanned_front held c.scan_on-stop.result.0.seen c.scan_on-stop.result.0.place c.scan_on-stop.ensures.seen (c.scan_on-stop.ensures.text c.in-Text.is) in
    (subst IsFront same front, bytes)

pub invariant_of-self-in-Broken : goal.invariant_of-self-in-Broken
invariant_of-self-in-Broken c = record {
  given_within = c.self.invariant.given_within;
  engine_is = c.self.invariant.engine_is;
  seen_is = subst (λ (t : List ℕ). IsScannedTo t c.scan_on-stop.result.0.seen c.scan_on-stop.result.0.place) c.behind-held.ensures.value c.scan_on-stop.ensures.seen;
}

pub returns-in-Broken-clause-malformed : goal.returns-in-Broken-clause-malformed
returns-in-Broken-clause-malformed c e =
    let held = c.behind-held.result.now in
    let bytes : drop c.self.inside.given c.self.inside.buffer.items ≡ c.args.self.now.bytes = ap (λ (v : Held). v.bytes) c.self.view_is in
    let same : held ≡ c.args.self.now.bytes = c.behind-held.ensures.value ∙ bytes in
    (subst IsMalformed same (scanned_broken held (c.scan_on-stop.ensures.broken c.in-Broken.is)), bytes)

pub invariant_of-self-in_err-read : goal.invariant_of-self-in_err-read
invariant_of-self-in_err-read c = record {
  given_within = c.self.invariant.given_within;
  engine_is = c.self.invariant.engine_is;
  seen_is = subst (λ (t : List ℕ). IsScannedTo t c.scan_on-stop.result.0.seen c.scan_on-stop.result.0.place) c.behind-held.ensures.value c.scan_on-stop.ensures.seen;
}

pub invariant_of-self-in_err-stanza : goal.invariant_of-self-in_err-stanza
invariant_of-self-in_err-stanza c = record {
  given_within = c.self.invariant.given_within;
  engine_is = c.self.invariant.engine_is;
  seen_is = subst (λ (t : List ℕ). IsScannedTo t c.scan_on-stop.result.0.seen c.scan_on-stop.result.0.place) c.behind-held.ensures.value c.scan_on-stop.ensures.seen;
}

pub invariant_of-self-in_default : goal.invariant_of-self-in_default
invariant_of-self-in_default c = record {
  given_within = c.self.invariant.given_within;
  engine_is = c.self.invariant.engine_is;
  seen_is = subst (λ (t : List ℕ). IsScannedTo t c.scan_on-stop.result.0.seen c.scan_on-stop.result.0.place) c.behind-held.ensures.value c.scan_on-stop.ensures.seen;
}

pub returns-in_default-clause-malformed : goal.returns-in_default-clause-malformed
returns-in_default-clause-malformed c e =
    let held = c.behind-held.result.now in
    let bytes : drop c.self.inside.given c.self.inside.buffer.items ≡ c.args.self.now.bytes = ap (λ (v : Held). v.bytes) c.self.view_is in
    let same : held ≡ c.args.self.now.bytes = c.behind-held.ensures.value ∙ bytes in
    let whole = c.scan_on-stop.ensures.whole c.in-Whole.is in
    let none = sym (rw c.in_default.is at c.in_ok-read.ensures.value) in
    (subst IsMalformed same (scanned_none c.self.inside.engine held whole.0 c.self.invariant.engine_is whole.1 none), bytes)

pub overflow_sub-self : goal.overflow_sub-self
overflow_sub-self c =
    let held = c.behind-held.result.now in
    let s = c.in-Some.read in
    let found = sym (rw c.in-Some.is at c.in_ok-read.ensures.value) in
    let spelled = stanza_sound c.self.inside.engine c.self.invariant.engine_is held s c.in-Some.rest.now c.behind-held.ensures.bytes found in
    let le = rest_within c.self.inside.buffer.items (spelling s) c.in-Some.rest.now c.self.inside.given (sym c.behind-held.ensures.value ∙ spelled.text_is) in
    let len = c.self.inside.buffer.ok.0 in
    omega (arith, le, len, c.len.ensures)

pub invariant_of-self-2 : goal.invariant_of-self-2
invariant_of-self-2 c = record {
  given_within = let len = c.self.inside.buffer.ok.0 in omega (arith, len, c.len.ensures);
  engine_is = c.self.invariant.engine_is;
  seen_is = nothing_scanned _;
}

pub returns-clause-stanza : goal.returns-clause-stanza
returns-clause-stanza c stanza e =
    let held = c.behind-held.result.now in
    let s = c.in-Some.read in
    let rest = c.in-Some.rest.now in
    let items = c.self.inside.buffer.items in
    let found = sym (rw c.in-Some.is at c.in_ok-read.ensures.value) in
    let spelled = stanza_sound c.self.inside.engine c.self.invariant.engine_is held s rest c.behind-held.ensures.bytes found in
    let body : IsBytes s.body = rw c.in-Some.is at c.in_ok-read.ensures.bytes in
    let bytes : drop c.self.inside.given items ≡ c.args.self.now.bytes = ap (λ (v : Held). v.bytes) c.self.view_is in
    let same : held ≡ c.args.self.now.bytes = c.behind-held.ensures.value ∙ bytes in
    let is : IsStanza s = record { tag = spelled.tag; args = spelled.args; body = body } in
    let len : c.len.result ≡ length items = c.len.ensures ∙ c.self.inside.buffer.ok.0 in
    let behind : drop (length items - length rest) items ≡ rest = behind_given items (spelling s) rest c.self.inside.given (sym c.behind-held.ensures.value ∙ spelled.text_is) in
    let now : drop (c.len.result - length rest) items ≡ rest = rw len behind in
    let text : c.args.self.now.bytes ≡ spelling s ++ drop (c.len.result - length rest) items = sym same ∙ rw now spelled.text_is in
    given_as c.args.self.now.bytes (drop (c.len.result - length rest) items) s c.in_ok-stanza.stanza stanza (cc) c.in_ok-stanza.ensures is text
