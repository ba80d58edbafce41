-- Fields and rows, one behind another.
use Rattle.std.proofs.Common.{◌≡◌, ◌∙◌, ℕ, List, [], ◌∷◌, ◌++◌, ap, append_assoc}
use Rattle.std.specs.Fmt.{decimal}
use Rattle.sample_book.specs.declared.Row.{Row}
use Rattle.export_terms.specs.Texts.{amount_fields, row_line}
use Rattle.office_export.specs.Fields.{field}

-- a text and a byte behind others, and then more
pub field-behind : (o t more : List ℕ) (m : ℕ) → (o ++ field t m []) ++ more ≡ o ++ field t m more
field-behind o t more m = append_assoc o (field t m []) more
    ∙ ap (λ (l : List ℕ). o ++ l) (append_assoc t (m ∷ []) more)

-- two fields
pub fields-built : (o a b t u : List ℕ) (m n : ℕ) → a ≡ o ++ field t m [] → b ≡ a ++ field u n []
    → b ≡ o ++ field t m (field u n [])
fields-built o a b t u m n ha hb =
    hb ∙ ap (λ (l : List ℕ). l ++ field u n []) ha ∙ field-behind o t (field u n []) m

-- a sample whose fields came one behind another
pub row-built : (r : Row) (o a b c d e : List ℕ)
    → a ≡ o ++ field r.sli 44 [] → b ≡ a ++ field r.source 44 []
    → c ≡ b ++ field (decimal r.minute) 44 [] → d ≡ c ++ field (decimal r.revision) 44 []
    → e ≡ d ++ amount_fields r.amount → e ≡ o ++ row_line r
row-built r o a b c d e ha hb hc hd he =
    let tail2 = amount_fields r.amount in
    let tail1 = field (decimal r.revision) 44 tail2 in
    let tail0 = field (decimal r.minute) 44 tail1 in
    let tail = field r.source 44 tail0 in
    he ∙ ap (λ (l : List ℕ). l ++ tail2) hd ∙ field-behind c (decimal r.revision) tail2 44
    ∙ ap (λ (l : List ℕ). l ++ tail1) hc ∙ field-behind b (decimal r.minute) tail1 44
    ∙ ap (λ (l : List ℕ). l ++ tail0) hb ∙ field-behind a r.source tail0 44
    ∙ ap (λ (l : List ℕ). l ++ tail) ha ∙ field-behind o r.sli tail 44
