-- One pass over records finds what they stand for, or the first that breaks a rule, and
-- nothing else does.
use Rattle.std.proofs.Common.{◌≡◌, ℕ, ◌+◌, List, [], ◌∷◌, ◌++◌, length, refl, ap, sym, ◌∙◌, subst}
use Rattle.std.proofs.Common.{arith, append_assoc, length-append}
use Rattle.std.specs.Prelude.{Result, Ok, Err}
use Rattle.std.proofs.lemmas.List.{append-nil}
use Rattle.slo_terms.specs.Judged.{AreKept, none, one_more, IsFirstFault, judged_next, judged_from}

-- records that are kept are passed over, and the pass goes on behind them
pub judged-kept : {R I F : Type 0} (judge : List I → R → Result I F) (records : List R)
    (items : List I) (rest : List R) →
    AreKept judge records items →
    judged_from judge [] 1 (records ++ rest) ≡ judged_from judge items (length records + 1) rest
judged-kept judge _ _ rest none = refl
judged-kept judge _ _ rest
    (one_more {records = records} {items = items} {next = next} {item = item} before here) =
    ap (judged_from judge [] 1) (append_assoc records (next ∷ []) rest)
    ∙ judged-kept judge records items (next ∷ rest) before
    ∙ ap (judged_next (λ more. judged_from judge more (length records + 1 + 1) rest) items
    (length records + 1)) here
    ∙ ap (λ n. judged_from judge (items ++ item ∷ []) n rest) (let e : length records + 1 + 1
    ≡ length (records ++ next ∷ []) + 1 = omega (arith, length-append records (next ∷ [])) in e)

-- what is kept is the answer of the pass
pub judged-AreKept : {R I F : Type 0} (judge : List I → R → Result I F) (records : List R)
    (items : List I) →
    AreKept judge records items → judged_from judge [] 1 records ≡ Ok items
judged-AreKept judge records items kept =
    ap (judged_from judge [] 1) (sym (append-nil records)) ∙ judged-kept judge records items [] kept

-- so is the first fault
pub judged-IsFirstFault : {R I F : Type 0} (judge : List I → R → Result I F) (records : List R)
    (number : ℕ) (fault : F) →
    IsFirstFault judge records number fault → judged_from judge [] 1 records ≡ Err (number, fault)
judged-IsFirstFault judge records number fault f =
    ap (judged_from judge [] 1) f.parted
    ∙ judged-kept judge f.before f.items (f.broken ∷ f.after) f.kept
    ∙ ap (judged_next (λ more. judged_from judge more (length f.before + 1 + 1) f.after) f.items
    (length f.before + 1)) f.breaks
    ∙ ap (λ n. Err (n, fault)) (sym f.numbered)

-- Where the pass ends well, all records are kept.
kept-judged : {R I F : Type 0} (judge : List I → R → Result I F) (before : List R) (items : List I)
    (number : ℕ) (rest : List R) (all : List I) →
    AreKept judge before items → judged_from judge items number rest ≡ Ok all →
    AreKept judge (before ++ rest) all
kept-judged judge before items number [] all kept e =
    let same : items ≡ all = cc e in
    subst (λ xs. AreKept judge (before ++ []) xs) same
    (subst (λ rs. AreKept judge rs items) (sym (append-nil before)) kept)
kept-judged {R} {I} {F} judge before items number (next ∷ rest) all kept e =
    by (judge items next) refl e
    (λ item. kept-judged judge (before ++ next ∷ []) (items ++ item ∷ []) (number + 1) rest all)
  where
    by : (r : Result I F) → judge items next ≡ r →
        judged_next (λ more. judged_from judge more (number + 1) rest) items number r ≡ Ok all →
        ((item : I) → AreKept judge (before ++ next ∷ []) (items ++ item ∷ [])
        → judged_from judge (items ++ item ∷ []) (number + 1) rest ≡ Ok all
        → AreKept judge ((before ++ next ∷ []) ++ rest) all) →
        AreKept judge (before ++ next ∷ rest) all
    by (Ok item) here ends go =
        subst (λ rs. AreKept judge rs all) (append_assoc before (next ∷ []) rest)
        (go item (one_more kept here) ends)
    by (Err fault) here ends go = cc ends

-- Where it ends at a fault, that is the first one.
fault-judged : {R I F : Type 0} (judge : List I → R → Result I F) (before : List R) (items : List I)
    (number : ℕ) (rest : List R) (at : ℕ) (fault : F) →
    AreKept judge before items →
    number ≡ length before + 1 → judged_from judge items number rest ≡ Err (at, fault) →
    IsFirstFault judge (before ++ rest) at fault
fault-judged judge before items number [] at fault kept numbered e = cc e
fault-judged {R} {I} {F} judge before items number (next ∷ rest) at fault kept numbered e =
    by (judge items next) refl e (λ item.
    fault-judged judge (before ++ next ∷ []) (items ++ item ∷ []) (number + 1) rest at fault)
  where
    by : (r : Result I F) → judge items next ≡ r →
        judged_next (λ more. judged_from judge more (number + 1) rest) items number r
        ≡ Err (at, fault) →
        ((item : I) → AreKept judge (before ++ next ∷ []) (items ++ item ∷ [])
        → number + 1 ≡ length (before ++ next ∷ []) + 1 →
        judged_from judge (items ++ item ∷ []) (number + 1) rest ≡ Err (at, fault) →
        IsFirstFault judge ((before ++ next ∷ []) ++ rest) at fault) →
        IsFirstFault judge (before ++ next ∷ rest) at fault
    by (Ok item) here ends go =
        subst (λ rs. IsFirstFault judge rs at fault) (append_assoc before (next ∷ []) rest)
        (go item (one_more kept here)
        (omega (arith, numbered, length-append before (next ∷ []))) ends)
    by (Err found) here ends go =
        let same : (number, found) ≡ (at, fault) = cc ends in
        let at_is = ap (λ (p : ℕ × F). p.0) same in
        let fault_is = ap (λ (p : ℕ × F). p.1) same in
        record {
          before = before;
          broken = next;
          after = rest;
          items = items;
          parted = refl;
          kept = kept;
          breaks = here ∙ ap (λ (f : F). Err f) fault_is;
          numbered = sym at_is ∙ numbered;
        }

pub AreKept-judged : {R I F : Type 0} (judge : List I → R → Result I F) (records : List R)
    (items : List I) →
    judged_from judge [] 1 records ≡ Ok items → AreKept judge records items
AreKept-judged judge records items e = kept-judged judge [] [] 1 records items none e

pub IsFirstFault-judged : {R I F : Type 0} (judge : List I → R → Result I F) (records : List R)
    (number : ℕ) (fault : F) →
    judged_from judge [] 1 records ≡ Err (number, fault) → IsFirstFault judge records number fault
IsFirstFault-judged judge records number fault e =
    fault-judged judge [] [] 1 records number fault none refl e
