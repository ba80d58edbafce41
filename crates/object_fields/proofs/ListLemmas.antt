-- What the items of a list give.
use Rattle.std.proofs.Common.{◌≡◌, List, [], ◌∷◌, ◌++◌, Result, Ok, Err, refl, sym, ap, ◌∙◌, subst}
use Rattle.std.proofs.Common.{append_assoc, append-nil}
use Rattle.yaml_terms.specs.Tree.{Tree, Trees, no_trees, item}
use Rattle.object_terms.specs.declared.fault.ReadError.{ReadError}
use Rattle.object_terms.specs.declared.fault.ReadError.TheVariants.{NoMemory, Fault}
use Rattle.object_terms.specs.declared.object.Object.{Object}
use Rattle.object_terms.specs.Form.{Answer, after, with_item, each}
use Rattle.object_fields.specs.Reading.{Fails, Gives, Reads}
use Rattle.object_terms.proofs.AnswerLemmas.{ok_same, err_not_ok}

-- an item that was read, and the items behind it
pub with_read : {A : Type 0} (old new : List Object) (vs : List A) (v : A) (a : Answer A)
    (rest : List Object → List A → Answer (List A))
    → after old a ≡ Ok (new, v) → with_item old vs a rest ≡ rest new (vs ++ v ∷ [])
with_read old new vs v (Ok p) rest h =
    ap (λ z. rest z.0 (vs ++ z.1 ∷ [])) (ok_same (old ++ p.0, p.1) (new, v) h)
with_read old new vs v (Err g) rest h = absurd (err_not_ok g (new, v) h)

pub with_failed : {A : Type 0} (e : ReadError) (os : List Object) (vs : List A) (a : Answer A)
    (rest : List Object → List A → Answer (List A))
    → Fails e a → Fails e (with_item os vs a rest)
with_failed NoMemory os vs a rest h = tt
with_failed (Fault x) os vs a rest h = ap (λ r. with_item os vs r rest) h

-- a list that is read behind objects which were found before
item_behind : {A : Type 0} (read : List A → Tree → Answer A) (os ps : List Object) (vs : List A)
    (a : Answer A) (ts : Trees)
    → ((qs : List Object) (ws : List A)
    → after os (each read qs ws ts) ≡ each read (os ++ qs) ws ts)
    → after os (with_item ps vs a (λ qs ws. each read qs ws ts))
    ≡ with_item (os ++ ps) vs a (λ qs ws. each read qs ws ts)
item_behind read os ps vs (Ok p) ts rest =
    rest (ps ++ p.0) (vs ++ p.1 ∷ [])
    ∙ ap (λ z. each read z (vs ++ p.1 ∷ []) ts) (sym (append_assoc os ps p.0))
item_behind read os ps vs (Err f) ts rest = refl

each_behind : {A : Type 0} (read : List A → Tree → Answer A) (os ps : List Object) (vs : List A)
    (ts : Trees)
    → after os (each read ps vs ts) ≡ each read (os ++ ps) vs ts
each_behind read os ps vs no_trees = refl
each_behind read os ps vs (item t ts) =
    item_behind read os ps vs (read vs t) ts (λ qs ws. each_behind read os qs ws ts)

behind_fails : {A : Type 0} (e : ReadError) (os : List Object) (a : Answer A)
    → Fails e (after os a) → Fails e a
behind_fails NoMemory os a h = tt
behind_fails (Fault x) os (Ok p) h = absurd (err_not_ok x (os ++ p.0, p.1) (sym h))
behind_fails (Fault x) os (Err f) h = h

reads_as : {A : Type 0} (old new : List Object) (r : Result A ReadError) (a : Answer A)
    → Gives (λ x. (new, x)) r (after old a) → Reads old new r a
reads_as old new (Ok x) a h = h
reads_as old new (Err e) a h = behind_fails e old a h

pub reads_each : {A : Type 0} (read : List A → Tree → Answer A) (old new : List Object)
    (r : Result (List A) ReadError) (ts : Trees)
    → Gives (λ x. (new, x)) r (each read old [] ts) → Reads old new r (each read [] [] ts)
reads_each read old new r ts h =
    let e : after old (each read [] [] ts) ≡ each read old [] ts =
    each_behind read old [] [] ts ∙ ap (λ z. each read z [] ts) (append-nil old) in
    reads_as old new r (each read [] [] ts)
    (subst (λ a. Gives (λ x. (new, x)) r a) (sym e) h)
