-- Plain items of one-line lists, byte by byte.
use Rattle.std.proofs.Common.{◌≡◌, ◌+◌, ◌-◌, ◌==◌, ℕ, suc, Bool, true, false, ◌&&◌, ◌||◌, not, List}
use Rattle.std.proofs.Common.{[], ◌∷◌, ◌++◌, Some, None, cond, length, refl, sym, ap, subst, ◌∙◌}
use Rattle.std.proofs.Common.{arith, eqb, ◌⊎◌, inl, inr, append_assoc, append-nil, get_or-drop}
use Rattle.std.specs.List.{slice_index}
use Rattle.std.proofs.lemmas.Bool.{eqb-true}
use Rattle.std.proofs.lemmas.Bool.Decides.{nat_tests}
use Rattle.yaml_terms.specs.Tree.{Tree, scalar}
use Rattle.yaml_terms.specs.Block.{is_blank_byte, is_blank}
use Rattle.yaml_terms.specs.Line.{stops_plain}
use Rattle.yaml_terms.specs.Flow.{flow_fault, flow_scalar, flow_plain, byte_fault}
use Rattle.yaml_terms.specs.Flow.{is_flow_indicator}
use Rattle.yaml_terms.specs.Flow.{is_indicator, is_soft_indicator, ends_soft, is_flow_start}
use Rattle.yaml_terms.specs.FlowList.{goes_on}
use Rattle.yaml_terms.specs.declared.ProfileFault.TheVariants.{FlowForm}
use Rattle.yaml_terms.specs.declared.Part.{Part}
use Rattle.yaml_terms.specs.declared.Part.TheVariants.{Want, Plain, Closed, Over}
use Rattle.yaml_lines.proofs.TrimLemmas.{strip, trimmed-strip}
use Rattle.yaml_lines.proofs.FlowLemmas.{at, Good, pick, when_false, over_one, tail_of, never}
use Rattle.yaml_lines.proofs.FlowLemmas.{and_left, and_right, and_false, blank_apart}

-- TESTS

pub not_true : (x : Bool) → not x ≡ true → x ≡ false
not_true false e = refl
not_true true e = absurd (cc e)

pub or_left : (x y : Bool) → (x || y) ≡ false → x ≡ false
or_left false y e = refl
or_left true y e = absurd (cc e)

pub or_right : (x y : Bool) → (x || y) ≡ false → y ≡ false
or_right false y e = e
or_right true y e = absurd (cc e)

pub and_true : (x y : Bool) → x ≡ true → y ≡ true → (x && y) ≡ true
and_true true true e f = refl
and_true false y e f = absurd (cc e)
and_true true false e f = absurd (cc f)

pub false_and : (x y : Bool) → x ≡ false → (x && y) ≡ false
false_and false y e = refl
false_and true y e = absurd (cc e)

pub apart_by : (test : ℕ → Bool) (c n : ℕ) → test c ≡ false → test n ≡ true → eqb c n ≡ false
apart_by test c n e f = by (eqb c n) refl
  where
    by : (x : Bool) → eqb c n ≡ x → x ≡ false
    by false g = refl
    by true g = absurd (cc (sym e ∙ ap test (eqb-true c n g) ∙ f))

-- THE BYTES OF A PLAIN ITEM

-- a byte with which a plain item goes on, before this one
abbrev pub carries_on : ℕ → ℕ → Bool
carries_on c n = not (is_flow_indicator c)
    && (not (c == 58 && is_blank_byte n) && not (is_blank_byte c && n == 35))

abbrev pub head_or : List ℕ → ℕ → ℕ
head_or [] n = n
head_or (c ∷ cs) n = c

-- bytes with which it goes on, before this one
abbrev pub inner : List ℕ → ℕ → Bool
inner [] n = true
inner (c ∷ cs) n = carries_on c (head_or cs n) && inner cs n

pub head_append : (w rest : List ℕ) → slice_index (w ++ rest) 0 ≡ head_or w (slice_index rest 0)
head_append [] rest = refl
head_append (c ∷ w) rest = refl

pub plain_on : (t : List ℕ) (ys : List Tree) (w rest : List ℕ) (zs : List Tree)
    → inner w (slice_index rest 0) ≡ true → Good (at Plain (t ++ w) ys) rest zs
    → Good (at Plain t ys) (w ++ rest) zs
plain_on t ys [] rest zs e g = subst (λ (u : List ℕ). Good (at Plain u ys) rest zs) (append-nil t) g
plain_on t ys (c ∷ w) rest zs e g =
    let n = slice_index (w ++ rest) 0 in
    let on : carries_on c n ≡ true = ap (carries_on c) (head_append w rest) ∙ and_left
    (carries_on c (head_or w (slice_index rest 0))) (inner w (slice_index rest 0)) e in
    let more = and_right (carries_on c (head_or w (slice_index rest 0)))
    (inner w (slice_index rest 0)) e in
    let flow_free = not_true (is_flow_indicator c) (and_left (not (is_flow_indicator c)) _ on) in
    let others = and_right (not (is_flow_indicator c))
    (not (c == 58 && is_blank_byte n) && not (is_blank_byte c && n == 35)) on in
    let colon_free = not_true (c == 58 && is_blank_byte n)
    (and_left (not (c == 58 && is_blank_byte n)) _ others) in
    let comment_free = not_true (is_blank_byte c && n == 35)
    (and_right (not (c == 58 && is_blank_byte n)) (not (is_blank_byte c && n == 35)) others) in
    over_one (at Plain t ys) c (w ++ rest) zs
    (when_false (is_blank_byte c && n == 35) _ _ (w ++ rest) zs comment_free
    (when_false (c == 44) _ _ (w ++ rest) zs (apart_by is_flow_indicator c 44 flow_free refl)
    (when_false (c == 93) _ _ (w ++ rest) zs (apart_by is_flow_indicator c 93 flow_free refl)
    (when_false (is_flow_indicator c) _ _ (w ++ rest) zs flow_free
    (when_false (c == 58 && is_blank_byte n) _ _ (w ++ rest) zs colon_free
    (plain_on (t ++ (c ∷ [])) ys w rest zs more (subst
    (λ (u : List ℕ). Good (at Plain u ys) rest zs) (sym (append_assoc t (c ∷ []) w)) g)))))))

-- what a plain item ends with, where the reading ends well
abbrev pub PlainEnds : List ℕ → List Tree → List ℕ → List Tree → Type 0
PlainEnds text ys rest zs = ((behind : List ℕ) × (rest ≡ 93 ∷ behind)
    × Good (flow_plain (at Plain text ys) Closed) behind zs)
    ⊎ ((more : List ℕ) × (rest ≡ 44 ∷ more) × Good (flow_plain (at Plain text ys) Want) more zs)

pub record PlainRest (t : List ℕ) (ys : List Tree) (cs : List ℕ) (zs : List Tree) : Type 0 where
  pub word : List ℕ
  pub rest : List ℕ
  pub cut : cs ≡ word ++ rest
  pub inside : inner word (slice_index rest 0) ≡ true
  pub ends : PlainEnds (t ++ word) ys rest zs

pub plain_reads : (t : List ℕ) (ys : List Tree) (cs : List ℕ) (zs : List Tree)
    → Good (at Plain t ys) cs zs → PlainRest t ys cs zs
plain_reads t ys [] zs g = absurd (cc g.ends.fine)
plain_reads t ys (c ∷ cs) zs g = pick (is_blank_byte c && slice_index cs 0 == 35) _ _ cs zs
    (λ m. never (flow_fault (at Plain t ys) Over FlowForm) cs zs refl)
    (λ m. pick (c == 44) _ _ cs zs
    (λ e h. record {
      word = [];
      rest = c ∷ cs;
      cut = refl;
      inside = refl;
      ends = inr (
        cs,
        ap (λ (x : ℕ). x ∷ cs) (eqb-true c 44 e),
        subst (λ (u : List ℕ).
            Good (flow_plain (at Plain u ys) Want) cs zs) (sym (append-nil t)) h,
      );
    })
    (λ e. pick (c == 93) _ _ cs zs
    (λ f h. record {
      word = [];
      rest = c ∷ cs;
      cut = refl;
      inside = refl;
      ends = inl (
        cs,
        ap (λ (x : ℕ). x ∷ cs) (eqb-true c 93 f),
        subst (λ (u : List ℕ).
            Good (flow_plain (at Plain u ys) Closed) cs zs) (sym (append-nil t)) h,
      );
    })
    (λ f. pick (is_flow_indicator c) _ _ cs zs
    (λ i. never (flow_fault (at Plain t ys) Plain (byte_fault c (slice_index cs 0))) cs zs refl)
    (λ i. pick (c == 58 && is_blank_byte (slice_index cs 0)) _ _ cs zs
    (λ k. never (flow_fault (at Plain t ys) Plain FlowForm) cs zs refl)
    (λ k h. let r = plain_reads (t ++ (c ∷ [])) ys cs zs h in
    record {
      word = c ∷ r.word;
      rest = r.rest;
      cut = ap (λ (l : List ℕ). c ∷ l) r.cut;
      inside = and_true (carries_on c (head_or r.word (slice_index r.rest 0)))
          (inner r.word (slice_index r.rest 0))
          (ap (carries_on c) (sym (ap (λ (l : List ℕ). slice_index l 0) r.cut
          ∙ head_append r.word r.rest)) ∙ carried c (slice_index cs 0) i k m) r.inside;
      ends =
          subst (λ (u : List ℕ). PlainEnds u ys r.rest zs) (append_assoc t (c ∷ []) r.word) r.ends;
    })))))
    (tail_of (at Plain t ys) c cs zs g)
  where
    carried : (c n : ℕ) → is_flow_indicator c ≡ false → (c == 58 && is_blank_byte n) ≡ false
        → (is_blank_byte c && n == 35) ≡ false → carries_on c n ≡ true
    carried c n i k m = rw (i, k, m) refl

-- THE TEXT OF A PLAIN ITEM

-- a text whose last character is a colon
abbrev pub ends_colon : List ℕ → Bool
ends_colon [] = false
ends_colon (c ∷ []) = c == 58
ends_colon (c ∷ d ∷ cs) = ends_colon (d ∷ cs)

pub last_colon : (u : List ℕ) → eqb (slice_index u (length u - 1)) 58 ≡ ends_colon u
last_colon [] = refl
last_colon (c ∷ []) = refl
last_colon (c ∷ d ∷ cs) = ap (λ (i : ℕ). eqb (slice_index (c ∷ d ∷ cs) i) 58) (one_less (length cs))
    ∙ ap (λ (x : ℕ). eqb x 58) (sym (get_or-drop 1 (c ∷ d ∷ cs) (suc (length cs) - 1) 0))
    ∙ last_colon (d ∷ cs)
  where
    one_less : (n : ℕ) → suc (suc n) - 1 ≡ 1 + (suc n - 1)
    one_less n = omega arith

-- no colon at its end, and none before a blank
pub goes_from : (u blanks : List ℕ) (n : ℕ) → inner (u ++ blanks) n ≡ true → ends_colon u ≡ false
    → goes_on u ≡ true
goes_from [] blanks n e f = refl
goes_from (c ∷ []) blanks n e f =
    let on = and_left (carries_on c (head_or blanks n)) (inner blanks n) e in
    let flow_free = not_true (is_flow_indicator c) (and_left (not (is_flow_indicator c)) _ on) in
    rw (flow_free, f) (by (is_blank_byte c))
  where
    by : (b : Bool) → (not ((false && true) || (b && false)) && true) ≡ true
    by true = refl
    by false = refl
goes_from (c ∷ d ∷ u) blanks n e f =
    let on = and_left (carries_on c d) (inner (d ∷ (u ++ blanks)) n) e in
    let flow_free = not_true (is_flow_indicator c) (and_left (not (is_flow_indicator c)) _ on) in
    let others = and_right (not (is_flow_indicator c))
    (not (c == 58 && is_blank_byte d) && not (is_blank_byte c && d == 35)) on in
    let colon_free = not_true (c == 58 && is_blank_byte d)
    (and_left (not (c == 58 && is_blank_byte d)) _ others) in
    let comment_free = not_true (is_blank_byte c && d == 35)
    (and_right (not (c == 58 && is_blank_byte d)) (not (is_blank_byte c && d == 35)) others) in
    rw (flow_free, colon_free, comment_free)
    (goes_from (d ∷ u) blanks n (and_right (carries_on c d) (inner (d ∷ (u ++ blanks)) n) e) f)

pub goes_colon : (u : List ℕ) → goes_on u ≡ true → ends_colon u ≡ false
goes_colon [] e = refl
goes_colon (c ∷ []) e =
    let stops = not_true (stops_plain c []) (and_left (not (stops_plain c [])) true
    (and_right (not (is_flow_indicator c)) (not (stops_plain c []) && true) e)) in
    by (c == 58) (or_left (c == 58 && true) _ stops)
  where
    by : (b : Bool) → (b && true) ≡ false → b ≡ false
    by false g = refl
    by true g = absurd (cc g)
goes_colon (c ∷ d ∷ u) e =
    goes_colon (d ∷ u) (and_right (not (stops_plain c (d ∷ u))) (goes_on (d ∷ u))
    (and_right (not (is_flow_indicator c)) (not (stops_plain c (d ∷ u)) && goes_on (d ∷ u)) e))

-- a plain item's text goes on up to what stands behind it
pub inner_of : (w : List ℕ) (n : ℕ) → goes_on w ≡ true → eqb n 35 ≡ false → inner w n ≡ true
inner_of [] n e f = refl
inner_of (c ∷ []) n e f =
    let flow_free = not_true (is_flow_indicator c) (and_left (not (is_flow_indicator c)) _ e) in
    rw (flow_free, goes_colon (c ∷ []) e, f) (by (is_blank_byte c))
  where
    by : (b : Bool) → (not (b && false) && true) ≡ true
    by true = refl
    by false = refl
inner_of (c ∷ d ∷ w) n e f =
    let flow_free = not_true (is_flow_indicator c) (and_left (not (is_flow_indicator c)) _ e) in
    let others =
    and_right (not (is_flow_indicator c)) (not (stops_plain c (d ∷ w)) && goes_on (d ∷ w)) e in
    let stops =
    not_true (stops_plain c (d ∷ w)) (and_left (not (stops_plain c (d ∷ w))) _ others) in
    let colon_free = or_left (c == 58 && is_blank_byte d) (is_blank_byte c && d == 35) stops in
    let comment_free = or_right (c == 58 && is_blank_byte d) (is_blank_byte c && d == 35) stops in
    rw (flow_free, colon_free, comment_free)
    (inner_of (d ∷ w) n (and_right (not (stops_plain c (d ∷ w))) (goes_on (d ∷ w)) others) f)

pub blank_no_flow : (c : ℕ) → is_blank_byte c ≡ true → is_flow_indicator c ≡ false
blank_no_flow c e = grind (arith, nat_tests)

pub head_of_blanks : (bs : List ℕ) (n : ℕ) → is_blank bs ≡ true → eqb n 35 ≡ false
    → eqb (head_or bs n) 35 ≡ false
head_of_blanks [] n e f = f
head_of_blanks (b ∷ bs) n e f = blank_apart b 35 (and_left (is_blank_byte b) (is_blank bs) e) refl

pub inner_blanks : (bs : List ℕ) (n : ℕ) → is_blank bs ≡ true → eqb n 35 ≡ false → inner bs n ≡ true
inner_blanks [] n e f = refl
inner_blanks (b ∷ bs) n e f =
    let blank = and_left (is_blank_byte b) (is_blank bs) e in
    let others = and_right (is_blank_byte b) (is_blank bs) e in
    rw (
      blank_no_flow b blank,
      blank_apart b 58 blank refl,
      head_of_blanks bs n others f,
      inner_blanks bs n others f,
    ) (by (is_blank_byte b))
  where
    by : (x : Bool) → (not (x && false) && true) ≡ true
    by true = refl
    by false = refl

-- ITS END

pub plain_ended : (t : List ℕ) (ys : List Tree) (p : Part) (cs : List ℕ) (zs : List Tree)
    → Good (flow_plain (at Plain t ys) p) cs zs
    → (ends_colon (strip t) ≡ false) × Good (at p [] (ys ++ (scalar (strip t) true ∷ []))) cs zs
plain_ended t ys p cs zs g = by (eqb (slice_index (strip t) (length (strip t) - 1)) 58) refl
    (subst (λ (u : List ℕ). Good (flow_scalar (at Plain t ys) p u) cs zs) (trimmed-strip t) g)
  where
    by : (b : Bool) → eqb (slice_index (strip t) (length (strip t) - 1)) 58 ≡ b
        → Good (record {
          part = p;
          text = [];
          items = ys ++ (scalar (strip t) true ∷ []);
          fault = cond b (Some FlowForm) None;
        }) cs zs
        → (ends_colon (strip t) ≡ false) × Good (at p [] (ys ++ (scalar (strip t) true ∷ []))) cs zs
    by true e h = never (record {
      part = p;
      text = [];
      items = ys ++ (scalar (strip t) true ∷ []);
      fault = Some FlowForm;
    }) cs zs refl h
    by false e h = (sym (last_colon (strip t)) ∙ e, h)

pub plain_ends : (t u : List ℕ) (ys : List Tree) (p : Part) (cs : List ℕ) (zs : List Tree)
    → strip t ≡ u → ends_colon u ≡ false
    → Good (at p [] (ys ++ (scalar u true ∷ []))) cs zs → Good (flow_plain (at Plain t ys) p) cs zs
plain_ends t u ys p cs zs e f g =
    subst (λ (v : List ℕ). Good (flow_scalar (at Plain t ys) p v) cs zs) (sym (trimmed-strip t ∙ e))
    (by (eqb (slice_index u (length u - 1)) 58) (last_colon u ∙ f))
  where
    by : (b : Bool) → b ≡ false → Good (record {
      part = p;
      text = [];
      items = ys ++ (scalar u true ∷ []);
      fault = cond b (Some FlowForm) None;
    }) cs zs
    by false e = g
    by true e = absurd (cc e)

-- ITS BEGINNING

start_alike : (c n m : ℕ) → ends_soft n ≡ ends_soft m → is_flow_start c n ≡ is_flow_start c m
start_alike c n m e =
    ap (λ (b : Bool). not (is_indicator c) && (not (is_soft_indicator c) || not b)) e

pub blank_ends : (c : ℕ) → is_blank_byte c ≡ true → ends_soft c ≡ true
blank_ends c e = grind (arith, nat_tests)

-- what stands behind a first character counts alike in the line and in the text
pub begins_alike : (c : ℕ) (w rest : List ℕ) → ends_soft (slice_index rest 0) ≡ true
    → is_flow_start c (slice_index (w ++ rest) 0) ≡ is_flow_start c (slice_index (strip w) 0)
begins_alike c [] rest e = start_alike c (slice_index rest 0) 0 e
begins_alike c (d ∷ w) rest e = by (is_blank_byte d && is_blank w) refl
  where
    by : (b : Bool) → (is_blank_byte d && is_blank w) ≡ b
        → is_flow_start c d ≡ is_flow_start c (slice_index (cond b [] (d ∷ strip w)) 0)
    by true f = start_alike c d 0 (blank_ends d (and_left (is_blank_byte d) (is_blank w) f))
    by false f = refl

pub begins_there : (c : ℕ) (w rest : List ℕ) → ends_soft (slice_index rest 0) ≡ true
    → is_flow_start c (slice_index (w ++ rest) 0) ≡ is_flow_start c (slice_index w 0)
begins_there c [] rest e = start_alike c (slice_index rest 0) 0 e
begins_there c (d ∷ w) rest e = refl

pub start_plain : (c n : ℕ) → is_flow_start c n ≡ true → is_indicator c ≡ false
start_plain c n e = not_true (is_indicator c)
    (and_left (not (is_indicator c)) (not (is_soft_indicator c) || not (ends_soft n)) e)

indicator_of : (c : ℕ) → is_flow_indicator c ≡ true → is_indicator c ≡ true
indicator_of c e = rw e refl

pub start_no_flow : (c n : ℕ) → is_flow_start c n ≡ true → is_flow_indicator c ≡ false
start_no_flow c n e = by (is_flow_indicator c) refl
  where
    by : (x : Bool) → is_flow_indicator c ≡ x → x ≡ false
    by false f = refl
    by true f = absurd (cc (sym (start_plain c n e) ∙ indicator_of c f))

pub start_no_colon : (c n : ℕ) → is_flow_start c n ≡ true → (c == 58 && is_blank_byte n) ≡ false
start_no_colon c n e = by (c == 58) (is_blank_byte n) refl refl
  where
    by : (x y : Bool) → (c == 58) ≡ x → is_blank_byte n ≡ y → (x && y) ≡ false
    by false y f g = refl
    by true false f g = refl
    by true true f g = absurd (cc (sym e ∙ and_false (not (is_indicator c)) _
        (none (ap is_soft_indicator (eqb-true c 58 f)) (blank_ends n g))))
      where
        none : is_soft_indicator c ≡ true → ends_soft n ≡ true
            → (not (is_soft_indicator c) || not (ends_soft n)) ≡ false
        none s t = rw (s, t) refl

-- a first character that the item goes on with
pub start_carries : (c n : ℕ) → is_blank_byte c ≡ false → is_flow_start c n ≡ true
    → carries_on c n ≡ true
start_carries c n b e = rw (start_no_flow c n e, start_no_colon c n e, b) refl
