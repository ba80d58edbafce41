-- Legal histories grow by legal entries.
use Rattle.std.proofs.Common.{◌≡◌, inl, inr, ◌⊎◌, ⊎_elim, ℕ, ◌+◌, List, [], ◌∷◌, ◌++◌, length, take}
use Rattle.std.proofs.Common.{drop, take-append-drop, refl, sym, ap, ◌∙◌, subst, arith}
use Rattle.slo_journal.specs.File.{tail_of, Stands, Closed}
use Rattle.slo_journal.specs.Scanning.{seen_from, HasRecord}
use Rattle.slo_journal.specs.Front.{IsHeader}
use Rattle.slo_journal.specs.Legal.{Legal, Walks}
use Rattle.slo_journal.proofs.Files.{size-append}
use Rattle.slo_journal.proofs.Walking.{gains, closes}

abbrev first : List (List ℕ) → List ℕ
first [] = []
first (r ∷ rs) = r

abbrev rest : List (List ℕ) → List (List ℕ)
rest [] = []
rest (r ∷ rs) = rs

no_end : (bs : List (List ℕ)) (s : List ℕ) (after : List (List ℕ)) → [] ≡ bs ++ s ∷ after → ⊥
no_end [] s after e = absurd (cc e)
no_end (b ∷ bs) s after e = absurd (cc e)

split_last : (rs before after : List (List ℕ)) (r s : List ℕ) → rs ++ r ∷ [] ≡ before ++ s ∷ after
    → ((before ≡ rs) × (s ≡ r)) ⊎ ((left : List (List ℕ)) × (rs ≡ before ++ s ∷ left))
split_last [] [] after r s e = inl (refl, sym (ap first e))
split_last [] (b ∷ bs) after r s e = absurd (no_end bs s after (ap rest e))
split_last (x ∷ rs) [] after r s e = inr (rs, ap (λ (l : List ℕ). l ∷ rs) (ap first e))
split_last (x ∷ rs) (b ∷ bs) after r s e = ⊎_elim
    (λ both. inl (
      ap (λ (l : List ℕ). l ∷ bs) (sym (ap first e))
          ∙ ap (λ (l : List (List ℕ)). x ∷ l) both.0,
      both.1,
    ))
    (λ more. inr (
      more.0,
      ap (λ (l : List ℕ). l ∷ rs) (ap first e)
          ∙ ap (λ (l : List (List ℕ)). b ∷ l) more.1,
    ))
    (split_last rs bs after r s (ap rest e))

module _ (legal : List (List ℕ) → List ℕ → Type 0) where
  pub legal_more : (rs : List (List ℕ)) (r : List ℕ) → Legal legal rs → legal rs r
      → Legal legal (rs ++ r ∷ [])
  legal_more rs r all one before s after e = ⊎_elim
      (λ both. subst (λ (b : List (List ℕ)). legal b s) (sym both.0)
      (subst (legal rs) (sym both.1) one))
      (λ more. all before s more.0 more.1)
      (split_last rs before after r s e)

  pub walks_on : (o : ℕ) (rs longer : List (List ℕ)) (r : List ℕ) (at next : ℕ) (file : List ℕ)
      → Walks legal o rs at file → HasRecord r (seen_from at file) → legal rs r
      → longer ≡ rs ++ r ∷ [] → next ≡ at + 5 + length r
      → Walks legal o longer next file
  walks_on o rs longer r at next file w h one same moves =
      subst (λ (l : List (List ℕ)). Walks legal o l next file) (sym same) (record {
        parts = gains o rs r at file w.parts w.place h;
        place = omega (arith, moves, w.place, size-append rs r);
        is_legal = legal_more rs r w.is_legal one;
      })

pub place_on : (rs longer : List (List ℕ)) (r : List ℕ) (at next : ℕ) → longer ≡ rs ++ r ∷ []
    → next ≡ at + 5 + length r → at ≡ tail_of rs → next ≡ tail_of longer
place_on rs longer r at next same moves place = omega (
  arith,
  ap tail_of same,
  moves,
  place,
  size-append rs r,
)

pub walks_first : (legal : List (List ℕ) → List ℕ → Type 0) (o : ℕ) (rs : List (List ℕ)) (at : ℕ)
    (file : List ℕ) → IsHeader o (take 13 file) → at ≡ 13 → rs ≡ [] → Walks legal o rs at file
walks_first legal o rs at file h place none =
    subst (λ (l : List (List ℕ)). Walks legal o l at file) (sym none) (record {
      parts = record {
        gate = h.gate;
        rest = drop 13 file;
        is_open = h.is_open;
        in_range = h.in_range;
        header = sym (take-append-drop 13 file) ∙ ap (λ (l : List ℕ). l ++ drop 13 file) h.same;
        records_are = tt;
      };
      place = place;
      is_legal = λ before r after e. absurd (no_end before r after e);
    })
