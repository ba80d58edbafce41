-- What a reader of the front of bytes answers.
use Rattle.std.specs.Prelude.{◌≡◌, ℕ, List, [], ◌∷◌, ◌++◌, Option, Some, None, Result, Ok, Err}
use Rattle.record_form.specs.declared.cursor.Unread.{Unread}
use Rattle.record_form.specs.declared.cursor.Unread.TheVariants.{NoRecord, NoMemory}
use Rattle.record_form.specs.Form.{Form, and_then}

-- Where nothing stands there, it is no record; memory may run out anywhere.
abbrev pub Fails : {Y : Type 0} → Unread → Option Y → Type 0
Fails NoRecord read = read ≡ None
Fails NoMemory read = Unit {0}

-- What was read of `before`, seen by `view`, is what stands there by the reading, and
-- `after` follows it.
abbrev pub ReadsAs : {X Y : Type 0} → (X → Y) → (List ℕ → Option (Y × List ℕ)) → Result X Unread
    → List ℕ → List ℕ → Type 0
ReadsAs view read (Ok x) before after = read before ≡ Some (view x, after)
ReadsAs view read (Err e) before after = Fails e (read before)

-- the same of a value that is seen as it is
abbrev pub Reads : {X : Type 0} → Form X → Result X Unread → List ℕ → List ℕ → Type 0
Reads form = ReadsAs (λ x. x) form.read

-- one value more, behind those that were read before
abbrev pub reading_behind : {A : Type 0} → Form A → List A → List ℕ → Option (List A × List ℕ)
reading_behind form front bytes = and_then (form.read bytes) (λ x. Some (front ++ x.0 ∷ [], x.1))
