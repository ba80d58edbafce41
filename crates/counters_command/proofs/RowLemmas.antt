-- Rows of differences, one list behind another.
use Rattle.std.proofs.Common.{◌≡◌, ℕ, List, [], ◌∷◌, ◌++◌, refl, ap, sym, ◌∙◌, append_assoc}
use Rattle.std.specs.Fmt.{decimal}
use Rattle.counter_book.specs.declared.Difference.{Difference}
use Rattle.counter_book.specs.Puts.{listed, listed_one}
use Rattle.counter_book.specs.declared.Changes.{Changes}
use Rattle.counters_command.specs.Rows.{field, row_of, rows_of}

pub rows-append : (sli : List ℕ) (xs ys : List Difference)
    → rows_of sli (xs ++ ys) ≡ rows_of sli xs ++ rows_of sli ys
rows-append sli [] ys = refl
rows-append sli (d ∷ ds) ys = ap (λ (l : List ℕ). row_of sli d ++ l) (rows-append sli ds ys)
    ∙ sym (append_assoc (row_of sli d) (rows_of sli ds) (rows_of sli ys))

-- a text and a byte behind others, and then more
pub field-behind : (o t more : List ℕ) (m : ℕ) → (o ++ field t m []) ++ more ≡ o ++ field t m more
field-behind o t more m = append_assoc o (field t m []) more
    ∙ ap (λ (l : List ℕ). o ++ l) (append_assoc t (m ∷ []) more)

-- a row whose fields came one behind another
pub row-built : (sli : List ℕ) (d : Difference) (o a b c e f g : List ℕ)
    → a ≡ o ++ field sli 44 [] → b ≡ a ++ field d.source 44 []
    → c ≡ b ++ field (decimal d.minute) 44 [] → e ≡ c ++ field (decimal d.revision) 44 []
    → f ≡ e ++ field (decimal d.part) 44 [] → g ≡ f ++ field (decimal d.total) 10 []
    → g ≡ o ++ row_of sli d
unfolding row_of
row-built sli d o a b c e f g ha hb hc he hf hg =
    let tail4 = field (decimal d.total) 10 [] in
    let tail3 = field (decimal d.part) 44 tail4 in
    let tail2 = field (decimal d.revision) 44 tail3 in
    let tail1 = field (decimal d.minute) 44 tail2 in
    let tail0 = field d.source 44 tail1 in
    hg ∙ ap (λ (l : List ℕ). l ++ tail4) hf ∙ field-behind e (decimal d.part) tail4 44
    ∙ ap (λ (l : List ℕ). l ++ tail3) he ∙ field-behind c (decimal d.revision) tail3 44
    ∙ ap (λ (l : List ℕ). l ++ tail2) hc ∙ field-behind b (decimal d.minute) tail2 44
    ∙ ap (λ (l : List ℕ). l ++ tail1) hb ∙ field-behind a d.source tail1 44
    ∙ ap (λ (l : List ℕ). l ++ tail0) ha ∙ field-behind o sli tail0 44

-- the rows of both differences of a reading
pub both-built : (sli : List ℕ) (changes : Changes) (o a b : List ℕ)
    → a ≡ o ++ rows_of sli (listed_one changes.own) → b ≡ a ++ rows_of sli (listed_one changes.next)
    → b ≡ o ++ rows_of sli (listed changes)
both-built sli changes o a b ha hb =
    hb ∙ ap (λ (l : List ℕ). l ++ rows_of sli (listed_one changes.next)) ha
    ∙ append_assoc o (rows_of sli (listed_one changes.own)) (rows_of sli (listed_one changes.next))
    ∙ ap (λ (l : List ℕ). o ++ l)
    (sym (rows-append sli (listed_one changes.own) (listed_one changes.next)))
