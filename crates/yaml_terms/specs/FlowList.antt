-- One-line lists in YAML's words (YAML 1.2.2, section 7.4.1): items parted by commas, with
-- blanks around them.
use Rattle.std.specs.Prelude.{ℕ, ◌≡◌, ◌&&◌, Bool, true, false, not, List, [], ◌∷◌, ◌++◌, Some, None}
use Rattle.std.specs.Prelude.{drop, slice_index, ◌⊎◌}
use Rattle.yaml_terms.specs.Tree.{Tree, scalar}
use Rattle.yaml_terms.specs.Block.{is_blank_byte, is_blank, trimmed_text}
use Rattle.yaml_terms.specs.Quoted.{quoted}
use Rattle.yaml_terms.specs.FaultOrder.{earlier}
use Rattle.yaml_terms.specs.Flow.{Flow, end_fault, is_flow_indicator, is_flow_start}
use Rattle.yaml_terms.specs.Line.{is_quote, stops_plain, is_tail}

-- the first character of a plain item (section 7.3.3)
abbrev pub begins_item : List ℕ → Bool
begins_item [] = false
begins_item (c ∷ cs) = not (is_blank_byte c) && is_flow_start c (slice_index cs 0)

-- no colon before a blank or at the end, no `#` behind a blank, none of `,[]{}`
abbrev pub goes_on : List ℕ → Bool
goes_on [] = true
goes_on (c ∷ cs) = not (is_flow_indicator c) && (not (stops_plain c cs) && goes_on cs)

-- a plain scalar within a list, without blanks around it
pub record IsPlainItem (text : List ℕ) : Type 0 where
  pub begins : begins_item text ≡ true
  pub inside : goes_on text ≡ true
  pub whole : trimmed_text is_blank_byte text ≡ text

-- a quoted scalar of this text stands first, and then the rest
pub record IsQuotedItem (line text rest : List ℕ) : Type 0 where
  pub quote : ℕ
  pub body : List ℕ
  pub size : ℕ
  pub cut : line ≡ quote ∷ body
  pub quotes : is_quote quote ≡ true
  pub reads : quoted quote body ≡ Some (record { text = text; length = size; bad = false })
  pub behind : rest ≡ drop size body

-- an item stands first, and then the rest
abbrev pub IsItem : List ℕ → Tree → List ℕ → Type 0
IsItem line (scalar text true) rest = (line ≡ text ++ rest) × IsPlainItem text
IsItem line (scalar text false) rest = IsQuotedItem line text rest
IsItem line _ rest = ⊥

-- blanks stand first, and then the rest
pub record HasBlanks (line rest : List ℕ) : Type 0 where
  pub blanks : List ℕ
  pub cut : line ≡ blanks ++ rest
  pub blank : is_blank blanks ≡ true

-- `]`, then blanks and perhaps a comment
pub record Closes (line : List ℕ) : Type 0 where
  pub behind : List ℕ
  pub cut : line ≡ 93 ∷ behind
  pub tail : is_tail behind ≡ true

-- behind an item: the end of the list, or a comma and what may follow it
abbrev pub EndsOrGoesOn : (List ℕ → Type 0) → List ℕ → List Tree → Type 0
EndsOrGoesOn follows line items = (Closes line × (items ≡ []))
    ⊎ ((rest : List ℕ) × (line ≡ 44 ∷ rest) × follows rest)

-- The text behind a list's opening bracket, to its line's end: items with commas between them,
-- perhaps a comma behind the last.
abbrev pub IsFlowList : List ℕ → List Tree → Type 0
IsFlowList line [] = (rest : List ℕ) × HasBlanks line rest × Closes rest
IsFlowList line (x ∷ xs) = (from : List ℕ) × HasBlanks line from
    × (behind : List ℕ) × IsItem from x behind × (rest : List ℕ) × HasBlanks behind rest
    × EndsOrGoesOn (λ l. IsFlowList l xs) rest xs

-- a list that was read has ended, without a fault, and has these items
pub record EndsWell (s : Flow) (items : List Tree) : Type 0 where
  pub fine : earlier s.fault (end_fault s.part) ≡ None
  pub all : s.items ≡ items
