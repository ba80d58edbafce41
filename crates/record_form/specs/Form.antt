-- Forms: how a value is spelled in front of what follows it, and how it is read from the
-- front of bytes.
use Rattle.std.specs.Prelude.{ℕ, zero, suc, Bool, nat_lt, cond, List, [], ◌∷◌, ◌++◌, length, take}
use Rattle.std.specs.Prelude.{drop, Option, Some, None}
use Rattle.std.specs.Int.{Width, byte_len, to_be_bytes, from_be_bytes}

-- The spelling of a value in front of what follows; the value at the front of bytes, and
-- what follows it.
pub record Form (A : Type 0) : Type 0 where
  pub write : A → List ℕ → List ℕ
  pub read : List ℕ → Option (A × List ℕ)

-- what follows where something is there
abbrev pub and_then : {A B : Type 0} → Option A → (A → Option B) → Option B
and_then None f = None
and_then (Some x) f = f x

-- the byte at the front, and what follows it
abbrev pub first_byte : List ℕ → Option (ℕ × List ℕ)
first_byte [] = None
first_byte (n ∷ rest) = Some (n, rest)

-- one byte
abbrev pub byte : Form ℕ
byte = record { write = λ n rest. n ∷ rest; read = first_byte }

-- a number of that width, the greatest byte first
abbrev pub number : Width → Form ℕ
number w = record {
  write = λ n rest. to_be_bytes w n ++ rest;
  read = λ bytes. cond (nat_lt (length bytes) (byte_len w)) None
      (Some (from_be_bytes w (take (byte_len w) bytes), drop (byte_len w) bytes));
}

-- the next bytes, as many as the count says
abbrev pub first_bytes : ℕ → List ℕ → Option (List ℕ × List ℕ)
first_bytes count bytes =
    cond (nat_lt (length bytes) count) None (Some (take count bytes, drop count bytes))

-- a length, and that many bytes
abbrev pub text : Form ℕ → Form (List ℕ)
text count = record {
  write = λ bytes rest. count.write (length bytes) (bytes ++ rest);
  read = λ bytes. and_then (count.read bytes) (λ n. first_bytes n.0 n.1);
}

-- those values alone that pass the test
abbrev pub passing : {A : Type 0} → (A → Bool) → Form A → Form A
passing passes form = record {
  write = form.write;
  read = λ bytes. and_then (form.read bytes) (λ x. cond (passes x.0) (Some x) None);
}

-- a value of one form, and one of another behind it
infixr 12 ◌then◌
abbrev pub ◌then◌ : {A B : Type 0} → Form A → Form B → Form (A × B)
one then other = record {
  write = λ pair rest. one.write pair.0 (other.write pair.1 rest);
  read = λ bytes. and_then (one.read bytes)
      (λ x. and_then (other.read x.1) (λ y. Some ((x.0, y.0), y.1)));
}

-- the reading of a value that is made of what the form spells
abbrev pub reading_as : {A B : Type 0} → (A → B) → Form A → List ℕ → Option (B × List ℕ)
reading_as make form bytes = and_then (form.read bytes) (λ x. Some (make x.0, x.1))

-- the form of values that are made of parts, and spelled as these are
abbrev pub form_by_parts : {A B : Type 0} → (A → B) → (B → A) → Form A → Form B
form_by_parts make parts form = record {
  write = λ x rest. form.write (parts x) rest;
  read = reading_as make form;
}

-- the spelling of values one behind another
abbrev pub spelling_of_each : {A : Type 0} → Form A → List A → List ℕ → List ℕ
spelling_of_each form [] rest = rest
spelling_of_each form (x ∷ xs) rest = form.write x (spelling_of_each form xs rest)

-- so many values from the front, and what follows them
abbrev pub reading_of_each : {A : Type 0} → Form A → ℕ → List ℕ → Option (List A × List ℕ)
reading_of_each form zero bytes = Some ([], bytes)
reading_of_each form (suc n) bytes = and_then (form.read bytes)
    (λ x. and_then (reading_of_each form n x.1) (λ xs. Some (x.0 ∷ xs.0, xs.1)))

-- a number, and that many values
abbrev pub form_of_list : {A : Type 0} → Form ℕ → Form A → Form (List A)
form_of_list count form = record {
  write = λ xs rest. count.write (length xs) (spelling_of_each form xs rest);
  read = λ bytes. and_then (count.read bytes) (λ n. reading_of_each form n.0 n.1);
}
