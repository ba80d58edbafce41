-- Each text has a verdict.
use Rattle.std.proofs.Common.{◌≡◌, ◌+◌, ◌<◌, ◌≤◌, ◌⊎◌, inl, inr, ℕ, zero, suc, Bool, true, false}
use Rattle.std.proofs.Common.{List, [], ◌∷◌, Option, Some, None, Result, Ok, Err, length, take}
use Rattle.std.proofs.Common.{drop, get_or, IsUtf8, refl, sym, subst, ◌∙◌, arith, true≢false}
use Rattle.std.specs.Str.{is_utf8, IsValidUpTo}
use Rattle.std.specs.Str.Lines.{lines}
use Rattle.std.specs.Str.Lossy.{utf8_error_len}
use Rattle.std.proofs.lemmas.Bool.{cases_lt}
use Rattle.std.proofs.lemmas.List.{take_all}
use Rattle.std.proofs.lemmas.Str.{IsUtf8-nil, IsUtf8-from_is_utf8, is_utf8-from_IsUtf8}
use Rattle.slo_limits.specs.declared.TheConstants.{MAX_TEXT_BYTES}
use Rattle.yaml_terms.specs.Tree.{Tree}
use Rattle.yaml_terms.specs.BadPlace.{IsBadPlace}
use Rattle.yaml_terms.specs.Text.{StandsFor, without_mark}
use Rattle.yaml_subset.proofs.FaultLemmas.{Outcome, either}
use Rattle.yaml_subset.proofs.PlaceLemmas.{place_at_first, place_at_end, place_inside}
use Rattle.yaml_subset.proofs.PlaceLemmas.{place_in_text}
use Rattle.object_terms.specs.declared.Object.{Object}
use Rattle.catalog_terms.specs.Define.{is_unchanged}
use Rattle.record_form.specs.declared.Refusal.{Refusal}
use Rattle.record_form.specs.declared.Refusal.TheVariants.{Yaml}
use Rattle.record_form.specs.declared.YamlWord.TheVariants as words
use Rattle.office_history.specs.Definitions.{Definition, IsDefinition, IsRefused, Known}
use Rattle.office_history.specs.Definitions.{defined_over, no_text}
use Rattle.office_history.specs.Documents.{objects_in}
use Rattle.definition_verdict.proofs.VerdictLemmas.{refused_documents, refused_objects}

-- WHERE BYTES STOP BEING UTF-8

front_up_to : (bs : List ℕ) (n : ℕ) → n < length bs → ((m : ℕ) → n < m → ¬ (IsUtf8 (take m bs)))
    → (k : ℕ) × IsValidUpTo bs k
front_up_to bs zero short longer =
    (zero, record { short = short; front = IsUtf8-nil; longest = longer })
front_up_to bs (suc n) short longer =
    by (is_utf8 (take (suc n) bs)) refl (λ less. front_up_to bs n (omega (arith, short)) less)
  where
    next : is_utf8 (take (suc n) bs) ≡ false → (m : ℕ) → n < m → (suc n < m) ⊎ (m ≤ suc n)
        → ¬ (IsUtf8 (take m bs))
    next e m lt (inl more) = longer m more
    next e m lt (inr same) = λ u.
        let here : m ≡ suc n = omega (arith, lt, same) in
        true≢false (sym (is_utf8-from_IsUtf8 (take (suc n) bs)
        (subst (λ k. IsUtf8 (take k bs)) here u)) ∙ e)

    by : (b : Bool) → is_utf8 (take (suc n) bs) ≡ b
        → (((m : ℕ) → n < m → ¬ (IsUtf8 (take m bs))) → (k : ℕ) × IsValidUpTo bs k)
        → (k : ℕ) × IsValidUpTo bs k
    by true e go = (
      suc n,
      record {
        short = short;
        front = IsUtf8-from_is_utf8 (take (suc n) bs) e;
        longest = longer;
      },
    )
    by false e go = go (λ m lt. next e m lt (cases_lt (suc n) m))

front_of : (bs : List ℕ) → ¬ (IsUtf8 bs) → (k : ℕ) × IsValidUpTo bs k
front_of [] not_utf8 = absurd (not_utf8 IsUtf8-nil)
front_of (b ∷ bs) not_utf8 =
    front_up_to (b ∷ bs) (length bs) (omega arith)
    (λ m lt u. not_utf8 (subst IsUtf8 (take_all m (b ∷ bs) (omega (arith, lt))) u))

place_behind : (bs : List ℕ) (n : ℕ) (v : IsValidUpTo bs n) → (at : ℕ) × IsBadPlace bs at
place_behind bs n v = by (cases_lt (get_or bs n 0) 194) (cases_lt 244 (get_or bs n 0))
  where
    by_length : (194 ≤ get_or bs n 0) × (get_or bs n 0 ≤ 244) → (o : Option ℕ)
        → utf8_error_len (drop n bs) ≡ o → (at : ℕ) × IsBadPlace bs at
    by_length lead None e = (length bs, place_at_end bs n v lead e)
    by_length lead (Some k) e = (n + k, place_inside bs n v k lead e)

    by : (get_or bs n 0 < 194) ⊎ (194 ≤ get_or bs n 0)
        → (244 < get_or bs n 0) ⊎ (get_or bs n 0 ≤ 244) → (at : ℕ) × IsBadPlace bs at
    by (inl low) _ = (n, place_at_first bs n v (λ lead. omega (arith, low, lead.0)))
    by (inr l) (inl high) = (n, place_at_first bs n v (λ lead. omega (arith, high, lead.1)))
    by (inr l) (inr h) = by_length (l, h) (utf8_error_len (drop n bs)) refl

place_of : (text : List ℕ) → ¬ (IsUtf8 (without_mark text)) → (at : ℕ) × IsBadPlace text at
place_of text not_utf8 =
    let front = front_of (without_mark text) not_utf8 in
    let place = place_behind (without_mark text) front.0 front.1 in
    (_, place_in_text text place.0 place.1)

-- VERDICTS

-- what a text defines, or why it is refused
abbrev pub HasVerdict : Known → List ℕ → Type 0
HasVerdict known text = ((made : Definition) × IsDefinition known text made)
    ⊎ ((refusal : Refusal) × IsRefused known text refusal)

of_objects : (known : Known) (text : List ℕ) (nodes : List Tree) (all : List Object)
    → StandsFor text nodes → objects_in nodes ≡ Ok all → HasVerdict known text
of_objects known text nodes all stands read = by (defined_over known all) refl
  where
    by : (r : Result (List Object) Refusal) → defined_over known all ≡ r → HasVerdict known text
    by (Err refusal) e = inr (refusal, refused_objects known text nodes all refusal stands read e)
    by (Ok members) e = inl (
      record {
        catalog = members;
        documents = length nodes;
        objects = length all;
        same = is_unchanged known.members all;
      },
      record {
        nodes = nodes;
        all = all;
        stands = stands;
        read = read;
        defined = e;
        of_documents = refl;
        of_objects = refl;
        unchanged = refl;
      },
    )

of_nodes : (known : Known) (text : List ℕ) (nodes : List Tree) → StandsFor text nodes
    → HasVerdict known text
of_nodes known text nodes stands = by (objects_in nodes) refl
  where
    by : (r : Result (List Object) Refusal) → objects_in nodes ≡ r → HasVerdict known text
    by (Err refusal) e = inr (refusal, refused_documents known text nodes refusal stands e)
    by (Ok all) e = of_objects known text nodes all stands e

of_lines : (known : Known) (text : List ℕ) → length text ≤ MAX_TEXT_BYTES
    → IsUtf8 (without_mark text)
    → Outcome (lines (without_mark text)) → HasVerdict known text
of_lines known text small utf8 (inl (nodes, e)) =
    of_nodes known text nodes (record { small = small; utf8 = utf8; nodes = e })
of_lines known text small utf8 (inr (line, which, fault)) =
    inr (Yaml line (words.Form which), no_text (small, utf8, fault))

pub has_verdict : (known : Known) (text : List ℕ) → HasVerdict known text
has_verdict known text = by_size (cases_lt MAX_TEXT_BYTES (length text))
  where
    by_utf8 : length text ≤ MAX_TEXT_BYTES → (b : Bool) → is_utf8 (without_mark text) ≡ b
        → HasVerdict known text
    by_utf8 small true e = of_lines known text small (IsUtf8-from_is_utf8 (without_mark text) e)
        (either (lines (without_mark text)))
    by_utf8 small false e =
        let not_utf8 : ¬ (IsUtf8 (without_mark text)) =
        λ u. true≢false (sym (is_utf8-from_IsUtf8 (without_mark text) u) ∙ e) in
        let place = place_of text not_utf8 in
        inr (Yaml 0 words.NotUtf8, no_text (refl, (place.0, (small, not_utf8, place.1))))

    by_size : (MAX_TEXT_BYTES < length text) ⊎ (length text ≤ MAX_TEXT_BYTES)
        → HasVerdict known text
    by_size (inl large) = inr (Yaml 0 words.TooLarge, no_text (refl, large))
    by_size (inr small) = by_utf8 small (is_utf8 (without_mark text)) refl
