-- What one reading gives, and what comes behind it.
use Rattle.std.proofs.Common.{◌≡◌, List, [], ◌∷◌, ◌++◌, Result, Ok, Err, refl, sym, ap, ◌∙◌}
use Rattle.std.proofs.Common.{append_assoc}
use Rattle.object_terms.specs.declared.fault.ObjectFault.{ObjectFault}
use Rattle.object_terms.specs.declared.fault.ReadError.{ReadError}
use Rattle.object_terms.specs.declared.fault.ReadError.TheVariants.{NoMemory, Fault}
use Rattle.object_terms.specs.declared.object.Object.{Object}
use Rattle.object_terms.specs.Form.{Answer, and_then, after}
use Rattle.object_terms.specs.Inline.{taken_out}
use Rattle.object_fields.specs.Reading.{Fails, Reads}
use Rattle.object_terms.proofs.AnswerLemmas.{ok_same, err_not_ok}

after_again : {A : Type 0} (os ps : List Object) (a : Answer A)
    → after os (after ps a) ≡ after (os ++ ps) a
after_again os ps (Ok p) = ap (λ z. Ok (z, p.1)) (sym (append_assoc os ps p.0))
after_again os ps (Err f) = refl

pub fails_then : {A B : Type 0} (e : ReadError) (a : Answer A) (f : A → Answer B) → Fails e a
    → Fails e (and_then a f)
fails_then NoMemory a f h = tt
fails_then (Fault x) a f h = ap (λ r. and_then r f) h

pub fails_behind : {A B : Type 0} (e : ReadError) (old new : List Object) (v : A) (a : Answer A)
    (f : A → Answer B)
    → after old a ≡ Ok (new, v) → Fails e (f v) → Fails e (and_then a f)
fails_behind NoMemory old new v a f h k = tt
fails_behind (Fault x) old new v (Ok p) f h k =
    let s : p.1 ≡ v = ap (λ z. z.1) (ok_same (old ++ p.0, p.1) (new, v) h) in
    ap (after p.0) (ap f s ∙ k)
fails_behind (Fault x) old new v (Err g) f h k = absurd (err_not_ok g (new, v) h)

-- a reading behind another that gave a value
pub reads_behind : {A B : Type 0} (old mid new : List Object) (v : A) (r : Result B ReadError)
    (a : Answer A) (f : A → Answer B)
    → after old a ≡ Ok (mid, v) → Reads mid new r (f v) → Reads old new r (and_then a f)
reads_behind old mid new v (Err e) a f h k = fails_behind e old mid v a f h k
reads_behind old mid new v (Ok b) (Ok p) f h k =
    let s = ok_same (old ++ p.0, p.1) (mid, v) h in
    after_again old p.0 (f p.1) ∙ (ap (λ z. after z.0 (f z.1)) s ∙ k)
reads_behind old mid new v (Ok b) (Err g) f h k = absurd (err_not_ok g (mid, v) h)

-- an object that is taken out behind those that stood in it
pub reads_taken : (old mid : List Object) (o : Object) (a : Answer Object)
    → after old a ≡ Ok (mid, o) → after old (taken_out a) ≡ Ok (mid ++ o ∷ [], o.name)
reads_taken old mid o (Ok p) h =
    ap (λ z. Ok (z, p.1.name)) (sym (append_assoc old p.0 (p.1 ∷ [])))
    ∙ ap (λ z. Ok (z.0 ++ z.1 ∷ [], z.1.name)) (ok_same (old ++ p.0, p.1) (mid, o) h)
reads_taken old mid o (Err g) h = absurd (err_not_ok g (mid, o) h)
