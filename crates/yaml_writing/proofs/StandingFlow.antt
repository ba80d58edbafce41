-- The items of a one-line list: quoted texts and texts of the plain form.
use Rattle.std.proofs.Common.{◌≡◌, ℕ, suc, ◌-◌, ◌<◌, Bool, true, false, cond, not, ◌&&◌, ◌||◌, ◌==◌}
use Rattle.std.proofs.Common.{List, [], ◌∷◌, ◌++◌, Option, Some, None, length, drop, slice_index}
use Rattle.std.proofs.Common.{IsUtf8, refl, sym, ap, ◌∙◌, subst, arith, append_assoc}
use Rattle.std.proofs.Common.{take-append-drop}
use Rattle.std.specs.Prelude.{⊤, nat_le}
use Rattle.std.specs.List.{AllByRecursion}
use Rattle.std.proofs.lemmas.Bool.{and_parts, and_from, or_parts, or_from, eqb-true, true≢false}
use Rattle.std.proofs.lemmas.List.Folds.{list_any-append}
use Rattle.yaml_terms.specs.Tree.{Tree, scalar}
use Rattle.yaml_terms.specs.FaultOrder.{place, earlier}
use Rattle.yaml_terms.specs.Block.{is_blank_byte, trimmed_text}
use Rattle.yaml_terms.specs.Quoted.{escaped_byte}
use Rattle.yaml_terms.specs.Flow.{Flow, flow, flow_step, flow_at, flow_fault, flow_part, flow_item}
use Rattle.yaml_terms.specs.Flow.{flow_more, flow_quoted, flow_plain, byte_fault, in_closed}
use Rattle.yaml_terms.specs.Flow.{in_want}
use Rattle.yaml_terms.specs.Flow.{in_plain, in_single, in_double, in_escape, in_after, in_broken}
use Rattle.yaml_terms.specs.Flow.{begins_comment, is_flow_indicator, is_indicator}
use Rattle.yaml_terms.specs.Flow.{is_soft_indicator, ends_soft, is_flow_start}
use Rattle.yaml_terms.specs.Line.{is_control, has_control, ends_word, is_plain_start, stops_plain}
use Rattle.yaml_terms.specs.Line.{plain_len}
use Rattle.yaml_terms.specs.Spelling.{spelled}
use Rattle.yaml_terms.specs.SpellingFits.{is_plain, is_quotable, SpellingFits}
use Rattle.yaml_terms.specs.declared.ProfileFault.{ProfileFault}
use Rattle.yaml_terms.specs.declared.ProfileFault.TheVariants.{Quote, Escape, FlowForm}
use Rattle.yaml_terms.specs.declared.Part.{Part}
use Rattle.yaml_terms.specs.declared.Part.TheVariants as parts
use Rattle.yaml_terms.proofs.Utf8Lemmas.{pick, front, back, onward, without, in_place, ascii_of}
use Rattle.yaml_writing.proofs.StandingBytes.{blank_ascii, free_take, may_stand, list_all-both}
use Rattle.yaml_writing.proofs.StandingBytes.{IsPure}
use Rattle.yaml_writing.proofs.StandingQuoted.{IsEscape, escape_fine}
use Rattle.yaml_writing.proofs.StandingPlain.{Last, trimmed_last, trimmed_utf8, trimmed_first}
use Rattle.yaml_writing.proofs.StandingPlain.{is_plain_of}

-- an item that can be written
abbrev pub IsItem : Tree → Type 0
IsItem x = (d : ℕ) → SpellingFits d (spelled x)

-- PLAIN ITEMS

-- a byte and the next one, between which a plain scalar ends
abbrev halts : ℕ → ℕ → Bool
halts c d = (c == 58 && is_blank_byte d) || (is_blank_byte c && d == 35)

abbrev runs : List ℕ → Bool
runs [] = true
runs (c ∷ []) = true
runs (c ∷ d ∷ cs) = not (halts c d) && runs (d ∷ cs)

runs_more : (t : List ℕ) (c d : ℕ) → runs (t ++ (c ∷ [])) ≡ true → halts c d ≡ false
    → runs ((t ++ (c ∷ [])) ++ (d ∷ [])) ≡ true
runs_more [] c d r h = rw h refl
runs_more (x ∷ []) c d r h = let p = and_parts (not (halts x c)) true r in rw (p.0, h) refl
runs_more (x ∷ y ∷ t) c d r h =
    let p = and_parts (not (halts x y)) (runs ((y ∷ t) ++ (c ∷ []))) r in
    and_from (not (halts x y)) (runs (((y ∷ t) ++ (c ∷ [])) ++ (d ∷ []))) p.0
    (runs_more (y ∷ t) c d p.1 h)

runs_front : (t q : List ℕ) → runs (t ++ q) ≡ true → runs t ≡ true
runs_front [] q r = refl
runs_front (x ∷ []) q r = refl
runs_front (x ∷ y ∷ t) q r =
    let p = and_parts (not (halts x y)) (runs ((y ∷ t) ++ q)) r in
    and_from (not (halts x y)) (runs (y ∷ t)) p.0 (runs_front (y ∷ t) q p.1)

abbrev last_byte : List ℕ → ℕ
last_byte v = slice_index v (length v - 1)

plain_of_runs : (v : List ℕ) → runs v ≡ true → (last_byte v == 58) ≡ false → plain_len v ≡ length v
plain_of_runs [] r l = refl
plain_of_runs (c ∷ []) r l = let e : stops_plain c [] ≡ false = or_from (c == 58 && true)
    (is_blank_byte c && 0 == 35) (alone (c == 58) l) (never (is_blank_byte c)) in rw e refl
  where
    alone : (b : Bool) → b ≡ false → (b && true) ≡ false
    alone true e = e
    alone false e = refl

    never : (b : Bool) → (b && false) ≡ false
    never true = refl
    never false = refl
plain_of_runs (c ∷ d ∷ v) r l =
    let p = and_parts (not (halts c d)) (runs (d ∷ v)) r in
    let e : stops_plain c (d ∷ v) ≡ false = was_not (halts c d) p.0 in
    let k : length (c ∷ d ∷ v) - 1 ≡ suc (length (d ∷ v) - 1) = omega arith in
    rw e (ap suc (plain_of_runs (d ∷ v) p.1 (rw k at l)))
  where
    was_not : (b : Bool) → not b ≡ true → b ≡ false
    was_not true e = sym e
    was_not false e = refl

-- a plain item so far, before this byte
pub record IsBegun (t : List ℕ) (next : ℕ) : Type 0 where
  pub first : ℕ
  pub rest : List ℕ
  pub text : t ≡ first ∷ rest
  pub nonblank : is_blank_byte first ≡ false
  pub starts : is_indicator first ≡ false
  pub soft : is_soft_indicator first ≡ true
      → ends_soft (slice_index (rest ++ (next ∷ [])) 0) ≡ false
  pub runs_on : runs (t ++ (next ∷ [])) ≡ true

begun_more : (t : List ℕ) (c next : ℕ) → IsBegun t c → halts c next ≡ false
    → IsBegun (t ++ (c ∷ [])) next
begun_more t c next b h = record {
  first = b.first;
  rest = b.rest ++ (c ∷ []);
  text = ap (λ l. l ++ (c ∷ [])) b.text;
  nonblank = b.nonblank;
  starts = b.starts;
  soft = λ e. subst (λ n. ends_soft n ≡ false) (same b.rest) (b.soft e);
  runs_on = runs_more t c next b.runs_on h;
}
  where
    same : (u : List ℕ) → slice_index (u ++ (c ∷ [])) 0
        ≡ slice_index ((u ++ (c ∷ [])) ++ (next ∷ [])) 0
    same [] = refl
    same (x ∷ u) = refl

-- a byte that ends an item
abbrev EndsItem : ℕ → Type 0
EndsItem c = is_flow_indicator c ≡ true

third : (x y z : Bool) → (x || y || z) ≡ false → z ≡ false
third true y z h = absurd (true≢false h)
third false true z h = absurd (true≢false h)
third false false z h = h

second : (x y z : Bool) → (x || y || z) ≡ false → y ≡ false
second true y z h = absurd (true≢false h)
second false true z h = h
second false false z h = refl

begun_form : (t : List ℕ) (c : ℕ) → EndsItem c → IsBegun t c
    → has_control t ≡ false → (last_byte (trimmed_text is_blank_byte t) == 58) ≡ false
    → is_plain (trimmed_text is_blank_byte t) ≡ true
begun_form t c e b free l =
    let begins : trimmed_text is_blank_byte t ≡ b.first ∷ trimmed_text is_blank_byte b.rest =
    ap (trimmed_text is_blank_byte) b.text
    ∙ trimmed_first is_blank_byte b.first b.rest b.nonblank in
    let here : runs (trimmed_text is_blank_byte t) ≡ true =
    runs_front (trimmed_text is_blank_byte t) (drop _ t) (subst (λ l. runs l ≡ true)
    (sym (take-append-drop _ t)) (runs_front t (c ∷ []) b.runs_on)) in
    let whole : plain_len (b.first ∷ trimmed_text is_blank_byte b.rest)
    ≡ length (b.first ∷ trimmed_text is_blank_byte b.rest) = subst (λ l. plain_len l ≡ length l)
    begins (plain_of_runs (trimmed_text is_blank_byte t) here l) in
    let last : Last is_blank_byte (b.first ∷ trimmed_text is_blank_byte b.rest) =
    subst (Last is_blank_byte) begins (trimmed_last is_blank_byte t) in
    let pure : has_control (b.first ∷ trimmed_text is_blank_byte b.rest) ≡ false =
    subst (λ l. has_control l ≡ false) begins (free_take _ t free) in
    let start : is_plain_start b.first (trimmed_text is_blank_byte b.rest) ≡ true =
    and_from (not (is_indicator b.first)) _ (ap not b.starts)
    (soft_ok b.rest (is_soft_indicator b.first) b.soft) in
    subst (λ l. is_plain l ≡ true) (sym begins)
    (is_plain_of b.first (trimmed_text is_blank_byte b.rest) b.nonblank start whole last pure)
  where
    soft_ok : (u : List ℕ) (s : Bool)
        → (s ≡ true → ends_soft (slice_index (u ++ (c ∷ [])) 0) ≡ false)
        → (not s || not (ends_word (trimmed_text is_blank_byte u))) ≡ true
    soft_ok u false h = refl
    soft_ok [] true h = absurd
        (true≢false (sym e ∙ third (c == 0) (is_blank_byte c) (is_flow_indicator c) (h refl)))
    soft_ok (d ∷ u) true h =
        let k = second (d == 0) (is_blank_byte d) (is_flow_indicator d) (h refl) in
        subst (λ l. not (ends_word l) ≡ true) (sym (trimmed_first is_blank_byte d u k)) (ap not k)

-- THE LIST BYTE BY BYTE

-- what is known of the text so far and of the bytes that follow
abbrev At : Part → List ℕ → List ℕ → Type 0
At parts.Want t cs = IsPure cs
At parts.Plain t cs = IsBegun t (slice_index cs 0) × IsPure (t ++ cs)
At parts.Single t cs = IsUtf8 (t ++ cs) × (is_quotable t ≡ true) × (has_control cs ≡ false)
At parts.Doubled t cs = IsUtf8 (t ++ cs) × (is_quotable t ≡ true) × (has_control cs ≡ false)
    × ((slice_index cs 0 == 39) ≡ true)
At parts.Double t cs = IsUtf8 (t ++ cs) × (is_quotable t ≡ true) × (has_control cs ≡ false)
At parts.Escape t cs = IsUtf8 (t ++ cs) × (is_quotable t ≡ true) × (has_control cs ≡ false)
At parts.After t cs = IsPure cs
At parts.Broken t cs = ⊥
At parts.Closed t cs = ⊤
At parts.Over t cs = ⊤

abbrev pub IsSound : Flow → List ℕ → Type 0
IsSound s cs = s.fault ≡ None → AllByRecursion IsItem s.items × At s.part s.text cs

pub no_fault_left : (a b : Option ProfileFault) → earlier a b ≡ None → a ≡ None
no_fault_left None b e = refl
no_fault_left (Some a) None e = e
no_fault_left (Some a) (Some b) e = by (nat_le (place a) (place b)) e
  where
    by : (t : Bool) → cond t (Some a) (Some b) ≡ None → Some a ≡ None
    by true e = cc
    by false e = cc

pub no_fault_right : (a b : Option ProfileFault) → earlier a b ≡ None → b ≡ None
no_fault_right None b e = e
no_fault_right (Some a) None e = refl
no_fault_right (Some a) (Some b) e = by (nat_le (place a) (place b)) e
  where
    by : (t : Bool) → cond t (Some a) (Some b) ≡ None → Some b ≡ None
    by true e = cc
    by false e = cc

faulted : (s : Flow) (p : Part) (w : ProfileFault) (cs : List ℕ) → IsSound (flow_fault s p w) cs
faulted s p w cs = λ g. let e = no_fault_right s.fault (Some w) g in cc

abbrev made : Part → List ℕ → List Tree → Option ProfileFault → Flow
made p t xs f = record { part = p; text = t; items = xs; fault = f }

items_more : (xs : List Tree) (x : Tree) → AllByRecursion IsItem xs → IsItem x
    → AllByRecursion IsItem (xs ++ (x ∷ []))
items_more [] x h k = (k, tt)
items_more (y ∷ ys) x h k = (h.0, items_more ys x h.1 k)

pub pure_behind : (c : ℕ) (cs : List ℕ) → c < 128 → IsPure (c ∷ cs) → IsPure cs
pure_behind c cs h p = (back [] c cs h p.0, (or_parts (is_control c) (has_control cs) p.1).1)

quote_begins : (c : ℕ) (cs : List ℕ) → c < 128 → IsPure (c ∷ cs)
    → IsUtf8 ([] ++ cs) × (is_quotable [] ≡ true) × (has_control cs ≡ false)
quote_begins c cs h p = let q = pure_behind c cs h p in (q.0, refl, q.1)

module _ (t : List ℕ) (xs : List Tree) (f : Option ProfileFault) (c : ℕ) (cs : List ℕ) where
  next : ℕ
  next = slice_index cs 0

  want_sound : (f ≡ None → AllByRecursion IsItem xs × IsPure (c ∷ cs))
      → IsSound (in_want (made parts.Want t xs f) c next) cs
  unfolding next
  want_sound h =
      let s = made parts.Want t xs f in
      let plain = cond (is_flow_start c next) (flow_item s parts.Plain (c ∷ []))
      (flow_fault s parts.Broken (byte_fault c next)) in
      let double = cond (c == 34) (flow_item s parts.Double []) plain in
      let single = cond (c == 39) (flow_item s parts.Single []) double in
      let comma = cond (c == 44) (flow_fault s parts.Want FlowForm) single in
      pick (λ s. IsSound s cs) (is_blank_byte c) s (cond (c == 93) (flow_part s parts.Closed) comma)
      (λ e g. ((h g).0, pure_behind c cs (blank_ascii c e) (h g).1))
      (λ blank. pick (λ s. IsSound s cs) (c == 93) (flow_part s parts.Closed) comma
      (λ e g. ((h g).0, tt))
      (λ _. pick (λ s. IsSound s cs) (c == 44) (flow_fault s parts.Want FlowForm) single
      (λ e. faulted s parts.Want FlowForm cs)
      (λ _. pick (λ s. IsSound s cs) (c == 39) (flow_item s parts.Single []) double
      (λ e g. ((h g).0, quote_begins c cs (ascii_of c 39 e (omega arith)) (h g).1))
      (λ _. pick (λ s. IsSound s cs) (c == 34) (flow_item s parts.Double []) plain
      (λ e g. ((h g).0, quote_begins c cs (ascii_of c 34 e (omega arith)) (h g).1))
      (λ _. pick (λ s. IsSound s cs) (is_flow_start c next)
      (flow_item s parts.Plain (c ∷ [])) (flow_fault s parts.Broken (byte_fault c next))
      (λ e g. ((h g).0, (begins blank e, (h g).1)))
      (λ _. faulted s parts.Broken (byte_fault c next) cs))))))
    where
      not_both : (b : Bool) → not b ≡ true → b ≡ false
      not_both true e = sym e
      not_both false e = refl

      softly : (s e : Bool) → (not s || not e) ≡ true → s ≡ true → e ≡ false
      softly true e h k = not_both e h
      softly false e h k = absurd (true≢false (sym k))

      begins : is_blank_byte c ≡ false → is_flow_start c next ≡ true → IsBegun (c ∷ []) next
      begins blank e =
          let p = and_parts (not (is_indicator c))
          (not (is_soft_indicator c) || not (ends_soft next)) e in
          record {
            first = c;
            rest = [];
            text = refl;
            nonblank = blank;
            starts = not_both (is_indicator c) p.0;
            soft = softly (is_soft_indicator c) (ends_soft next) p.1;
            runs_on =
                rw (
                  blank,
                  colon (c == 58) refl (softly (is_soft_indicator c) (ends_soft next) p.1),
                ) refl;
          }
        where
          colon : (b : Bool) → (c == 58) ≡ b → (is_soft_indicator c ≡ true → ends_soft next ≡ false)
              → (b && is_blank_byte next) ≡ false
          colon false e h = refl
          colon true e h = second (next == 0) (is_blank_byte next) (is_flow_indicator next)
              (h (subst (λ n. is_soft_indicator n ≡ true) (sym (eqb-true c 58 e)) refl))

  -- a plain item that ends at this byte
  plain_ends : (c < 128) → EndsItem c → f ≡ None → AllByRecursion IsItem xs
      × (IsBegun t c × IsPure (t ++ (c ∷ cs)))
      → (last_byte (trimmed_text is_blank_byte t) == 58) ≡ false
      → AllByRecursion IsItem (xs ++ (scalar (trimmed_text is_blank_byte t) true ∷ [])) × IsPure cs
  plain_ends low ends g h l = (
    items_more xs _ h.0 (λ d. (
      trimmed_utf8 is_blank_byte blank_ascii
          [] t (front t c cs low h.1.1.0),
      begun_form t c ends h.1.0 (or_parts (has_control t)
          (has_control (c ∷ cs)) (sym (list_any-append is_control t (c ∷ cs)) ∙ h.1.1.1)).0 l,
    )),
    (
      back t c cs low h.1.1.0,
      (or_parts (is_control c) (has_control cs) (or_parts (has_control t)
          (has_control (c ∷ cs)) (sym (list_any-append is_control t (c ∷ cs)) ∙ h.1.1.1)).1).1,
    ),
  )

  colon_ends : (b : Bool) → (cond b (earlier f (Some FlowForm)) f) ≡ None → (b ≡ false) × (f ≡ None)
  colon_ends true g = let e = no_fault_right f (Some FlowForm) g in cc
  colon_ends false g = (refl, g)

  plain_sound : (is_blank_byte c && next == 35) ≡ false
      → (f ≡ None → AllByRecursion IsItem xs × (IsBegun t c × IsPure (t ++ (c ∷ cs))))
      → IsSound (in_plain (made parts.Plain t xs f) c next) cs
  unfolding next
  plain_sound going h =
      let s = made parts.Plain t xs f in
      pick (λ s. IsSound s cs) (c == 44) (flow_plain s parts.Want)
      _ (λ e g. let k = colon_ends (last_byte (trimmed_text is_blank_byte t) == 58) g in
      plain_ends (ascii_of c 44 e (omega arith)) (is_end c 44 e refl) k.1 (h k.1) k.0)
      (λ _. pick (λ s. IsSound s cs) (c == 93) (flow_plain s parts.Closed) _ (λ e g. let k =
      colon_ends (last_byte (trimmed_text is_blank_byte t) == 58) g in let r = plain_ends
      (ascii_of c 93 e (omega arith)) (is_end c 93 e refl) k.1 (h k.1) k.0 in (r.0, tt))
      (λ _. pick (λ s. IsSound s cs) (is_flow_indicator c) (flow_fault s parts.Plain
      (byte_fault c next)) _ (λ e. faulted s parts.Plain (byte_fault c next) cs)
      (λ _. pick (λ s. IsSound s cs) (c == 58 && is_blank_byte next) (flow_fault s parts.Plain
      FlowForm) (flow_more s parts.Plain c) (λ e. faulted s parts.Plain FlowForm cs)
      (λ e g. (
        (h g).0,
        (
          begun_more t c next (h g).1.0
              (or_from (c == 58 && is_blank_byte next) (is_blank_byte c && next == 35) e going),
          subst IsPure (sym (append_assoc t (c ∷ []) cs)) (h g).1.1,
        ),
      )))))
    where
      is_end : (x y : ℕ) → (x == y) ≡ true → is_flow_indicator y ≡ true → is_flow_indicator x ≡ true
      is_end x y e k = subst (λ n. is_flow_indicator n ≡ true) (sym (eqb-true x y e)) k

  -- a quoted item ends at this quote
  quote_ends : c < 128 → AllByRecursion IsItem xs
      × (IsUtf8 (t ++ (c ∷ cs)) × (is_quotable t ≡ true) × (has_control (c ∷ cs) ≡ false))
      → AllByRecursion IsItem (xs ++ (scalar t false ∷ [])) × IsPure cs
  quote_ends low h = (
    items_more xs (scalar t false) h.0 (λ d. (front t c cs low h.1.0, h.1.1)),
    (back t c cs low h.1.0, (or_parts (is_control c) (has_control cs) h.1.2).1),
  )

  -- one more byte of a quoted item
  quote_more : IsUtf8 (t ++ (c ∷ cs)) × (is_quotable t ≡ true) × (has_control (c ∷ cs) ≡ false)
      → IsUtf8 ((t ++ (c ∷ [])) ++ cs) × (is_quotable (t ++ (c ∷ [])) ≡ true)
      × (has_control cs ≡ false)
  quote_more h = let p = or_parts (is_control c) (has_control cs) h.2 in
      (onward t c cs h.0, list_all-both may_stand t (c ∷ []) h.1 (rw p.0 refl), p.1)

  single_sound : (f ≡ None → AllByRecursion IsItem xs
      × (IsUtf8 (t ++ (c ∷ cs)) × (is_quotable t ≡ true) × (has_control (c ∷ cs) ≡ false)))
      → IsSound (in_single (made parts.Single t xs f) c next) cs
  unfolding next
  single_sound h =
      let s = made parts.Single t xs f in
      pick (λ s. IsSound s cs) (c == 39) (cond (next == 39) (flow_more s parts.Doubled 39)
      (flow_quoted s)) (flow_more s parts.Single c)
      (λ e. pick (λ s. IsSound s cs) (next == 39) (flow_more s parts.Doubled 39) (flow_quoted s)
      (λ k g. ((h g).0, doubled (eqb-true c 39 e) k (quote_more (h g).1)))
      (λ _ g. quote_ends (ascii_of c 39 e (omega arith)) (h g)))
      (λ _ g. ((h g).0, quote_more (h g).1))
    where
      doubled : c ≡ 39 → (next == 39) ≡ true → IsUtf8 ((t ++ (c ∷ [])) ++ cs)
          × (is_quotable (t ++ (c ∷ [])) ≡ true) × (has_control cs ≡ false)
          → IsUtf8 ((t ++ (39 ∷ [])) ++ cs) × (is_quotable (t ++ (39 ∷ [])) ≡ true)
          × (has_control cs ≡ false) × ((next == 39) ≡ true)
      doubled e k m = let n = subst (λ b. IsUtf8 ((t ++ (b ∷ [])) ++ cs)
          × (is_quotable (t ++ (b ∷ [])) ≡ true) × (has_control cs ≡ false)) e m in
          (n.0, n.1, n.2, k)

  doubled_sound : (f ≡ None → AllByRecursion IsItem xs × (IsUtf8 (t ++ (c ∷ cs))
      × (is_quotable t ≡ true) × (has_control (c ∷ cs) ≡ false) × ((c == 39) ≡ true)))
      → IsSound (flow_part (made parts.Doubled t xs f) parts.Single) cs
  doubled_sound h = λ g. let k = h g in (
    k.0,
    (
      without t c cs (ascii_of c 39 k.1.3 (omega arith)) k.1.0,
      k.1.1,
      (or_parts (is_control c) (has_control cs) k.1.2).1,
    ),
  )

  double_sound : (f ≡ None → AllByRecursion IsItem xs
      × (IsUtf8 (t ++ (c ∷ cs)) × (is_quotable t ≡ true) × (has_control (c ∷ cs) ≡ false)))
      → IsSound (in_double (made parts.Double t xs f) c) cs
  double_sound h =
      let s = made parts.Double t xs f in
      pick (λ s. IsSound s cs) (c == 34) (flow_quoted s)
      (cond (c == 92) (flow_part s parts.Escape) (flow_more s parts.Double c))
      (λ e g. quote_ends (ascii_of c 34 e (omega arith)) (h g))
      (λ _. pick (λ s. IsSound s cs) (c == 92) (flow_part s parts.Escape)
      (flow_more s parts.Double c)
      (λ e g. let k = h g in (
        k.0,
        (
          without t c cs (ascii_of c 92 e (omega arith)) k.1.0,
          k.1.1,
          (or_parts (is_control c) (has_control cs) k.1.2).1,
        ),
      ))
      (λ _ g. ((h g).0, quote_more (h g).1)))

  escape_sound : (f ≡ None → AllByRecursion IsItem xs
      × (IsUtf8 (t ++ (c ∷ cs)) × (is_quotable t ≡ true) × (has_control (c ∷ cs) ≡ false)))
      → IsSound (in_escape (made parts.Escape t xs f) (escaped_byte c)) cs
  escape_sound h = by (escaped_byte c) (escape_fine c)
    where
      by : (o : Option ℕ) → IsEscape c o → IsSound (in_escape (made parts.Escape t xs f) o) cs
      by None k = faulted (made parts.Escape t xs f) parts.Double Escape cs
      by (Some e) k = λ g. let m = h g in (
        m.0,
        (
          in_place t c e cs k.0 k.1 m.1.0,
          list_all-both may_stand t (e ∷ []) m.1.1 (rw k.2 refl),
          (or_parts (is_control c) (has_control cs) m.1.2).1,
        ),
      )

  after_sound : (f ≡ None → AllByRecursion IsItem xs × IsPure (c ∷ cs))
      → IsSound (in_after (made parts.After t xs f) c next) cs
  unfolding next
  after_sound h =
      let s = made parts.After t xs f in
      let bad = flow_fault (flow_fault s parts.Broken Quote) parts.Broken
      (cond (is_flow_indicator c) (byte_fault c next) Quote) in
      pick (λ s. IsSound s cs) (is_blank_byte c) s
      (cond (c == 44) (flow_part s parts.Want) (cond (c == 93) (flow_part s parts.Closed) bad))
      (λ e g. ((h g).0, pure_behind c cs (blank_ascii c e) (h g).1))
      (λ _. pick (λ s. IsSound s cs) (c == 44) (flow_part s parts.Want)
      (cond (c == 93) (flow_part s parts.Closed) bad)
      (λ e g. ((h g).0, pure_behind c cs (ascii_of c 44 e (omega arith)) (h g).1))
      (λ _. pick (λ s. IsSound s cs) (c == 93) (flow_part s parts.Closed) bad (λ e g. ((h g).0, tt))
      (λ _. faulted (flow_fault s parts.Broken Quote) parts.Broken
      (cond (is_flow_indicator c) (byte_fault c next) Quote) cs)))

  broken_sound : (f ≡ None → AllByRecursion IsItem xs × ⊥)
      → IsSound (in_broken (made parts.Broken t xs f) c next) cs
  unfolding next
  broken_sound h =
      let s = made parts.Broken t xs f in
      pick (λ s. IsSound s cs) (c == 44) (flow_part s parts.Want)
      (cond (c == 93) (flow_part s parts.Closed) (cond (is_flow_indicator c)
      (flow_fault s parts.Broken (byte_fault c next)) s)) (λ e g. absurd (h g).1)
      (λ _. pick (λ s. IsSound s cs) (c == 93) (flow_part s parts.Closed)
      (cond (is_flow_indicator c) (flow_fault s parts.Broken (byte_fault c next)) s)
      (λ e g. absurd (h g).1)
      (λ _. pick (λ s. IsSound s cs) (is_flow_indicator c) (flow_fault s parts.Broken
      (byte_fault c next)) s (λ e. faulted s parts.Broken (byte_fault c next) cs) (λ e. h)))

  closed_sound : (f ≡ None → AllByRecursion IsItem xs × ⊤)
      → IsSound (in_closed (made parts.Closed t xs f) c next) cs
  unfolding next
  closed_sound h =
      let s = made parts.Closed t xs f in
      pick (λ s. IsSound s cs) (is_blank_byte c) (cond (next == 35) (flow_part s parts.Over) s)
      (flow_fault s parts.Over FlowForm)
      (λ _. pick (λ s. IsSound s cs) (next == 35) (flow_part s parts.Over) s (λ _. h) (λ _. h))
      (λ _. faulted s parts.Over FlowForm cs)

  at_sound : (p : Part) → begins_comment p c next ≡ false
      → (f ≡ None → AllByRecursion IsItem xs × At p t (c ∷ cs))
      → IsSound (flow_at p (made p t xs f) c next) cs
  unfolding next
  at_sound parts.Want e h = want_sound h
  at_sound parts.Plain e h = plain_sound e h
  at_sound parts.Single e h = single_sound h
  at_sound parts.Doubled e h = doubled_sound h
  at_sound parts.Double e h = double_sound h
  at_sound parts.Escape e h = escape_sound h
  at_sound parts.After e h = after_sound h
  at_sound parts.Broken e h = broken_sound h
  at_sound parts.Closed e h = closed_sound h
  at_sound parts.Over e h = h

  step_sound : (p : Part) → (f ≡ None → AllByRecursion IsItem xs × At p t (c ∷ cs))
      → IsSound (flow_step (made p t xs f) c (slice_index cs 0)) cs
  unfolding next
  step_sound p h = pick (λ s. IsSound s cs) (begins_comment p c next)
      (flow_fault (made p t xs f) parts.Over FlowForm) (flow_at p (made p t xs f) c next)
      (λ _. faulted (made p t xs f) parts.Over FlowForm cs) (λ e. at_sound p e h)

pub flow_sound : (s : Flow) (cs : List ℕ) → IsSound s cs → IsSound (flow s cs) []
flow_sound s [] h = h
flow_sound s (c ∷ cs) h = flow_sound (flow_step s c (slice_index cs 0)) cs
    (step_sound s.text s.items s.fault c cs s.part h)
