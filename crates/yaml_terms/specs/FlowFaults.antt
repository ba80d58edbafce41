-- The fault of a one-line list in YAML's words (YAML 1.2.2, section 7.4.1): the earliest that one
-- of
-- its items has with what stands behind it, or the end of the list.
use Rattle.std.specs.Prelude.{ℕ, ◌≡◌, ◌==◌, ◌&&◌, ◌||◌, Bool, false, not, List, [], ◌∷◌, Option}
use Rattle.std.specs.Prelude.{Some, None, cond, drop, slice_index}
use Rattle.yaml_terms.specs.FaultOrder.{earlier}
use Rattle.yaml_terms.specs.Block.{is_blank_byte}
use Rattle.yaml_terms.specs.Quoted.{Quoted, quoted}
use Rattle.yaml_terms.specs.Flow.{byte_fault, is_flow_indicator, is_flow_start}
use Rattle.yaml_terms.specs.Line.{escape_fault, is_quote, is_tail}
use Rattle.yaml_terms.specs.declared.profile_fault.ProfileFault.{ProfileFault}
use Rattle.yaml_terms.specs.declared.profile_fault.ProfileFault.TheVariants.{Quote, FlowForm}

-- a comma, the closing bracket, or a blank before a comment: an item ends before it
abbrev pub ends_item : ℕ → List ℕ → Bool
ends_item c cs = c == 44 || c == 93 || (is_blank_byte c && slice_index cs 0 == 35)

-- the text from the end of an item on
abbrev pub from_end : List ℕ → List ℕ
from_end [] = []
from_end (c ∷ cs) = cond (ends_item c cs) (c ∷ cs) (from_end cs)

-- a list or map inside an item, or a colon before a blank or one of `,[]{}`
abbrev pub fault_within : ℕ → ℕ → Option ProfileFault
fault_within c next = cond (is_flow_indicator c) (Some (byte_fault c next))
    (cond (c == 58 && (is_blank_byte next || is_flow_indicator next)) (Some FlowForm) None)

-- the earliest of these faults up to the item's end
abbrev pub inner_fault : List ℕ → Option ProfileFault
inner_fault [] = None
inner_fault (c ∷ cs) = cond (ends_item c cs) None
    (earlier (fault_within c (slice_index cs 0)) (inner_fault cs))

-- the text behind the blanks before an item or its end; a blank before a comment stays
abbrev pub behind_blanks : List ℕ → List ℕ
behind_blanks [] = []
behind_blanks (c ∷ cs) = cond (is_blank_byte c && not (slice_index cs 0 == 35)) (behind_blanks cs)
    (c ∷ cs)

-- an item's fault, and the text from its end on
pub record Item : Type 0 where
  pub fault : Option ProfileFault
  pub rest : List ℕ

-- something behind a quoted item
abbrev pub fault_behind : List ℕ → Option ProfileFault
fault_behind [] = None
fault_behind (c ∷ cs) = cond (ends_item c cs) None (earlier (Some Quote) (inner_fault (c ∷ cs)))

-- a quoted item, which ends on its line
abbrev pub quoted_item : List ℕ → Option Quoted → Item
quoted_item cs None = record { fault = Some Quote; rest = [] }
quoted_item cs (Some q) = let behind = drop q.length cs in record {
  fault = earlier (escape_fault q.bad) (fault_behind (behind_blanks behind));
  rest = from_end behind;
}

-- a byte with which no plain item begins: what this profile leaves out, or nothing before a comma
abbrev pub fault_at_start : ℕ → ℕ → Option ProfileFault
fault_at_start c next = cond (is_flow_start c next) None (Some (byte_fault c next))

-- what begins here: an item, or the end of the list
abbrev pub item_at : List ℕ → Item
item_at [] = record { fault = None; rest = [] }
item_at (c ∷ cs) = cond (is_quote c) (quoted_item cs (quoted c cs)) (record {
  fault = cond (c == 93) None (earlier (fault_at_start c (slice_index cs 0))
      (inner_fault (c ∷ cs)));
  rest = from_end (c ∷ cs);
})

abbrev pub item_of : List ℕ → Item
item_of line = item_at (behind_blanks line)

-- the end of a list: its bracket, and behind it blanks and perhaps a comment
abbrev pub fault_at_end : List ℕ → Option ProfileFault
fault_at_end [] = Some FlowForm
fault_at_end (c ∷ cs) = cond (c == 93 && is_tail cs) None (Some FlowForm)

-- The fault of a list's text from behind its opening bracket, or a comma, to its line's end.
pub data HasListFault : List ℕ → Option ProfileFault → Type 0 where
  goes_on : (line rest : List ℕ) (fault : Option ProfileFault) → (item_of line).rest ≡ 44 ∷ rest
      → HasListFault rest fault → HasListFault line (earlier (item_of line).fault fault)
  ends : (line : List ℕ) → (slice_index (item_of line).rest 0 == 44) ≡ false
      → HasListFault line (earlier (item_of line).fault (fault_at_end (item_of line).rest))
