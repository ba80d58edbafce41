-- One-line lists of scalars (YAML 1.2.2, section 7.4.1), byte by byte with the byte that follows.
use Rattle.std.specs.Prelude.{ℕ, ◌-◌, ◌==◌, ◌&&◌, ◌||◌, Bool, true, false, not, List, [], ◌∷◌, ◌++◌}
use Rattle.std.specs.Prelude.{Option, Some, None, cond, length, slice_index}
use Rattle.yaml_terms.specs.Tree.{Tree, scalar}
use Rattle.yaml_terms.specs.FaultOrder.{earlier}
use Rattle.yaml_terms.specs.Quoted.{escaped_byte}
use Rattle.yaml_terms.specs.Block.{is_blank_byte, trimmed_text}
use Rattle.yaml_terms.specs.declared.profile_fault.ProfileFault.{ProfileFault}
use Rattle.yaml_terms.specs.declared.profile_fault.ProfileFault.TheVariants.{LeftOut, Quote, Escape}
use Rattle.yaml_terms.specs.declared.profile_fault.ProfileFault.TheVariants.{FlowForm}
use Rattle.yaml_terms.specs.declared.part.Part.{Part}
use Rattle.yaml_terms.specs.declared.part.Part.TheVariants as parts

-- a list so far: where the reading stands, the text of the item there, the finished items, and the
-- first fault so far
pub record Flow : Type 0 where
  pub part : Part
  pub text : List ℕ
  pub items : List Tree
  pub fault : Option ProfileFault

abbrev pub flow_start : Flow
flow_start = record { part = parts.Want; text = []; items = []; fault = None }

-- one of `,[]{}`
abbrev pub is_flow_indicator : ℕ → Bool
is_flow_indicator c = c == 44 || c == 91 || c == 93 || c == 123 || c == 125

-- one of `,[]{}#&*!|>'"%@` and the backquote, which begin no plain scalar
abbrev pub is_indicator : ℕ → Bool
is_indicator c = is_flow_indicator c || c == 35 || c == 38 || c == 42 || c == 33 || c == 124
    || c == 62 || c == 39 || c == 34 || c == 37 || c == 64 || c == 96

-- `-`, `?` or `:`, which begin a plain scalar only before another character
abbrev pub is_soft_indicator : ℕ → Bool
is_soft_indicator c = c == 45 || c == 63 || c == 58

-- a byte that may not follow these; 0 is the line's end
abbrev pub ends_soft : ℕ → Bool
ends_soft next = next == 0 || is_blank_byte next || is_flow_indicator next

-- a plain item begins
abbrev pub is_flow_start : ℕ → ℕ → Bool
is_flow_start c next = not (is_indicator c) && (not (is_soft_indicator c) || not (ends_soft next))

-- an anchor, alias, tag, directive or reserved character: one of `&*!%@` and the backquote
abbrev pub is_left_out : ℕ → Bool
is_left_out c = c == 38 || c == 42 || c == 33 || c == 37 || c == 64 || c == 96

-- the fault of a byte with which no item begins: a list inside, a map that isn't `{}`, what is left
-- out, or another form
abbrev pub byte_fault : ℕ → ℕ → ProfileFault
byte_fault c next = cond (c == 91 || (c == 123 && not (next == 125)) || is_left_out c
    || (c == 63 && is_blank_byte next)) LeftOut FlowForm

abbrev pub flow_fault : Flow → Part → ProfileFault → Flow
flow_fault s p w = record s { part = p; fault = earlier s.fault (Some w) }

abbrev pub flow_part : Flow → Part → Flow
flow_part s p = record s { part = p }

-- an item begins, with this text so far
abbrev pub flow_item : Flow → Part → List ℕ → Flow
flow_item s p text = record s { part = p; text = text }

abbrev pub flow_more : Flow → Part → ℕ → Flow
flow_more s p c = record s { part = p; text = s.text ++ (c ∷ []) }

-- a quoted item ends
abbrev pub flow_quoted : Flow → Flow
flow_quoted s =
    record s { part = parts.After; text = []; items = s.items ++ (scalar s.text false ∷ []) }

-- the fault of a plain item that ends with a colon
abbrev pub colon_end : Option ProfileFault → List ℕ → Option ProfileFault
colon_end fault text =
    cond (slice_index text (length text - 1) == 58) (earlier fault (Some FlowForm)) fault

abbrev pub flow_scalar : Flow → Part → List ℕ → Flow
flow_scalar s p text = record {
  part = p;
  text = [];
  items = s.items ++ (scalar text true ∷ []);
  fault = colon_end s.fault text;
}

-- a plain item ends, without the blanks at its end
abbrev pub flow_plain : Flow → Part → Flow
flow_plain s p = flow_scalar s p (trimmed_text is_blank_byte s.text)

-- blanks and a comment behind the list
abbrev pub in_closed : Flow → ℕ → ℕ → Flow
in_closed s c next = cond (is_blank_byte c) (cond (next == 35) (flow_part s parts.Over) s)
    (flow_fault s parts.Over FlowForm)

abbrev pub in_want : Flow → ℕ → ℕ → Flow
in_want s c next = cond (is_blank_byte c) s
    (cond (c == 93) (flow_part s parts.Closed)
    (cond (c == 44) (flow_fault s parts.Want FlowForm)
    (cond (c == 39) (flow_item s parts.Single [])
    (cond (c == 34) (flow_item s parts.Double [])
    (cond (is_flow_start c next) (flow_item s parts.Plain (c ∷ []))
    (flow_fault s parts.Broken (byte_fault c next)))))))

abbrev pub in_plain : Flow → ℕ → ℕ → Flow
in_plain s c next = cond (c == 44) (flow_plain s parts.Want)
    (cond (c == 93) (flow_plain s parts.Closed)
    (cond (is_flow_indicator c) (flow_fault s parts.Plain (byte_fault c next))
    (cond (c == 58 && is_blank_byte next) (flow_fault s parts.Plain FlowForm)
    (flow_more s parts.Plain c))))

abbrev pub in_single : Flow → ℕ → ℕ → Flow
in_single s c next = cond (c == 39)
    (cond (next == 39) (flow_more s parts.Doubled 39) (flow_quoted s)) (flow_more s parts.Single c)

abbrev pub in_double : Flow → ℕ → Flow
in_double s c = cond (c == 34) (flow_quoted s)
    (cond (c == 92) (flow_part s parts.Escape) (flow_more s parts.Double c))

abbrev pub in_escape : Flow → Option ℕ → Flow
in_escape s (Some c) = flow_more s parts.Double c
in_escape s None = flow_fault s parts.Double Escape

-- behind a quoted item a comma or the closing bracket follows, else it has something behind it
abbrev pub in_after : Flow → ℕ → ℕ → Flow
in_after s c next = cond (is_blank_byte c) s
    (cond (c == 44) (flow_part s parts.Want)
    (cond (c == 93) (flow_part s parts.Closed)
    (flow_fault (flow_fault s parts.Broken Quote) parts.Broken
    (cond (is_flow_indicator c) (byte_fault c next) Quote))))

abbrev pub in_broken : Flow → ℕ → ℕ → Flow
in_broken s c next = cond (c == 44) (flow_part s parts.Want)
    (cond (c == 93) (flow_part s parts.Closed)
    (cond (is_flow_indicator c) (flow_fault s parts.Broken (byte_fault c next)) s))

-- a comment inside, so that the list doesn't end on its line
abbrev pub begins_comment : Part → ℕ → ℕ → Bool
begins_comment parts.Want c next = is_blank_byte c && next == 35
begins_comment parts.Plain c next = is_blank_byte c && next == 35
begins_comment parts.After c next = is_blank_byte c && next == 35
begins_comment parts.Broken c next = is_blank_byte c && next == 35
begins_comment _ c next = false

abbrev pub flow_at : Part → Flow → ℕ → ℕ → Flow
flow_at parts.Want s c next = in_want s c next
flow_at parts.Plain s c next = in_plain s c next
flow_at parts.Single s c next = in_single s c next
flow_at parts.Doubled s c next = flow_part s parts.Single
flow_at parts.Double s c next = in_double s c
flow_at parts.Escape s c next = in_escape s (escaped_byte c)
flow_at parts.After s c next = in_after s c next
flow_at parts.Broken s c next = in_broken s c next
flow_at parts.Closed s c next = in_closed s c next
flow_at parts.Over s c next = s

abbrev pub flow_step : Flow → ℕ → ℕ → Flow
flow_step s c next =
    cond (begins_comment s.part c next) (flow_fault s parts.Over FlowForm) (flow_at s.part s c next)

-- the list after the bytes behind its opening bracket
abbrev pub flow : Flow → List ℕ → Flow
flow s [] = s
flow s (c ∷ cs) = flow (flow_step s c (slice_index cs 0)) cs

-- the fault of a list whose line ends there
abbrev pub end_fault : Part → Option ProfileFault
end_fault parts.Closed = None
end_fault parts.Over = None
end_fault parts.Single = Some Quote
end_fault parts.Doubled = Some Quote
end_fault parts.Double = Some Quote
end_fault parts.Escape = Some Quote
end_fault _ = Some FlowForm
