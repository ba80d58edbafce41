-- An input has one end, but for those of the outside and the disk.
use Rattle.std.proofs.Common.{◌≡◌, ℕ, suc, ◌+◌, ◌≤◌, List, [], length, refl, sym, ap, ◌∙◌}
use Rattle.std.proofs.Common.{subst}
use Rattle.std.proofs.Common.{arith, drop, Ok, Err, Some, None, Result}
use Rattle.std.specs.Prelude.{slice_get}
use Rattle.std.proofs.lemmas.Option.{slice_get_past}
use Rattle.record_form.specs.declared.Entry.{Entry}
use Rattle.record_form.specs.Records.{record_of}
use Rattle.office_history.specs.History.{Office, with_entry}
use Rattle.office_history.specs.Legal.{MayFollow}
use Rattle.follow_terms.specs.declared.FollowEnd.{FollowEnd}
use Rattle.follow_terms.specs.declared.FollowEnd.TheVariants as ends
use Rattle.follow_terms.specs.Pieces.{head_read, length_read, record_read}
use Rattle.follow_terms.specs.Follows.{Between, Inside, Follows, done, outside, head_ends}
use Rattle.follow_terms.specs.Follows.{head_passes, feed_ends, length_ends, record_ends, differs}
use Rattle.follow_terms.specs.Follows.{is_held, illegal, disk_ends, taken}
use Rattle.follow_laws.specs.Laws.{IsFree, by_outside, by_disk, Agree, one_free, other_free, alike}
use Rattle.follow_laws.specs.Laws.{HasOneEnd}

err_is : {A : Type 0} (a b : FollowEnd) → ◌≡◌ {A = Result A FollowEnd} (Err a) (Err b) → a ≡ b
err_is a b e = cc e

ok_is : {A : Type 0} (x y : A) → ◌≡◌ {A = Result A FollowEnd} (Ok x) (Ok y) → x ≡ y
ok_is x y e = cc e

not_both : {A : Type 0} (x : A) (a : FollowEnd) → ◌≡◌ {A = Result A FollowEnd} (Ok x) (Err a) → ⊥
not_both x a e = absurd cc

-- what a derivation says of a head
ended_head : (o : Office) (at : ℕ) (left : List ℕ) (end : FollowEnd) (last : Office)
    (end2 : FollowEnd) → 1 ≤ length left → head_read o at left ≡ Err end
    → Follows Between o at left last end2 → Agree o end last end2
ended_head o at left end _ _ some h (done e) = absurd (omega (arith, some, ap length e))
ended_head o at left end _ end2 some h (outside e) = other_free (by_outside e)
ended_head o at left end _ end2 some h (head_ends some2 k) =
    alike refl (err_is {A = ℕ × ℕ} end end2 (sym h ∙ k))
ended_head o at left end last end2 some h (head_passes {first = f} {count = c} some2 k go) =
    absurd (not_both (f, c) end (sym k ∙ h))

data Went (o : Office) (at : ℕ) (left : List ℕ) (first count : ℕ) (last : Office) (end : FollowEnd)
    : Type 0 where
  freed : IsFree end → Went o at left first count last end
  went : Follows (Inside count first) o (at + 20) (drop 20 left) last end
      → Went o at left first count last end

passed_head : (o : Office) (at : ℕ) (left : List ℕ) (first count : ℕ) (last : Office)
    (end2 : FollowEnd) → 1 ≤ length left → head_read o at left ≡ Ok (first, count)
    → Follows Between o at left last end2 → Went o at left first count last end2
passed_head o at left first count _ _ some h (done e) = absurd (omega (arith, some, ap length e))
passed_head o at left first count _ end2 some h (outside e) = freed (by_outside e)
passed_head o at left first count _ end2 some h (head_ends some2 k) =
    absurd (not_both (first, count) end2 (sym h ∙ k))
passed_head o at left first count last end2 some h
    (head_passes {first = f} {count = c} some2 k go) =
    went (subst (λ (p : ℕ × ℕ). Follows (Inside p.1 p.0) o (at + 20) (drop 20 left) last end2)
    (ok_is {A = ℕ × ℕ} (f, c) (first, count) (sym k ∙ h)) go)

over_empty : (o : Office) (at : ℕ) (left : List ℕ) (last : Office) (end2 : FollowEnd)
    → left ≡ [] → Follows Between o at left last end2 → Agree o ends.Done last end2
over_empty o at left _ _ h (done e) = alike refl refl
over_empty o at left _ end2 h (outside e) = other_free (by_outside e)
over_empty o at left _ end2 h (head_ends some k) = absurd (omega (arith, some, ap length h))
over_empty o at left last end2 h (head_passes some k go) = absurd (omega (arith, some, ap length h))

data Nexted (o : Office) (at : ℕ) (left : List ℕ) (last : Office) (end : FollowEnd) : Type 0 where
  freed_next : IsFree end → Nexted o at left last end
  nexted : Follows Between o at left last end → Nexted o at left last end

at_feed_end : (o : Office) (at : ℕ) (left : List ℕ) (position : ℕ) (last : Office)
    (end : FollowEnd) → Follows (Inside 0 position) o at left last end → Nexted o at left last end
at_feed_end o at left position last end (feed_ends f) = nexted f
at_feed_end o at left position _ end (outside e) = freed_next (by_outside e)

ended_length : (count position : ℕ) (o : Office) (at : ℕ) (left : List ℕ) (end : FollowEnd)
    (last : Office) (end2 : FollowEnd) → length_read at left ≡ Err end
    → Follows (Inside (suc count) position) o at left last end2 → Agree o end last end2
ended_length count position o at left end _ end2 h (outside e) = other_free (by_outside e)
ended_length count position o at left end _ end2 h (length_ends k) =
    alike refl (err_is {A = ℕ} end end2 (sym h ∙ k))
ended_length count position o at left end _ end2 h (record_ends {size = n} k l) =
    absurd (not_both n end (sym k ∙ h))
ended_length count position o at left end _ _ h (differs {size = n} k l s d) =
    absurd (not_both n end (sym k ∙ h))
ended_length count position o at left end last end2 h (is_held {size = n} k l s d f) =
    absurd (not_both n end (sym k ∙ h))
ended_length count position o at left end _ _ h (illegal {size = n} k l s d) =
    absurd (not_both n end (sym k ∙ h))
ended_length count position o at left end _ end2 h (disk_ends {size = n} k l s m d) =
    absurd (not_both n end (sym k ∙ h))
ended_length count position o at left end last end2 h (taken {size = n} k l s m f) =
    absurd (not_both n end (sym k ∙ h))

-- what a derivation says of an entry whose length is read
data Read (count position : ℕ) (o : Office) (at : ℕ) (left : List ℕ) (size : ℕ) (last : Office)
    (end : FollowEnd) : Type 0 where
  r_free : IsFree end → Read count position o at left size last end
  r_ends : last ≡ o → record_read at size (drop 4 left) ≡ Err end
      → Read count position o at left size last end
  r_differs : (e held : Entry) → last ≡ o → end ≡ ends.Diverges position
      → record_read at size (drop 4 left) ≡ Ok e → slice_get o.history position ≡ Some held
      → (record_of held ≡ record_of e → ⊥) → Read count position o at left size last end
  r_held : (e held : Entry) → record_read at size (drop 4 left) ≡ Ok e
      → slice_get o.history position ≡ Some held → record_of held ≡ record_of e
      → Follows (Inside count (suc position)) o (at + 4 + size) (drop size (drop 4 left)) last end
      → Read count position o at left size last end
  r_illegal : (e : Entry) → last ≡ o → end ≡ ends.Illegal position
      → record_read at size (drop 4 left) ≡ Ok e → position ≡ length o.history
      → (MayFollow o e → ⊥) → Read count position o at left size last end
  r_taken : (e : Entry) → record_read at size (drop 4 left) ≡ Ok e → position ≡ length o.history
      → MayFollow o e
      → Follows (Inside count (suc position)) (with_entry o e) (at + 4 + size)
      (drop size (drop 4 left)) last end
      → Read count position o at left size last end

at_size : (count position : ℕ) (o : Office) (at : ℕ) (left : List ℕ) (m n : ℕ) (last : Office)
    (end : FollowEnd) → length_read at left ≡ Ok m → length_read at left ≡ Ok n
    → Read count position o at left n last end → Read count position o at left m last end
at_size count position o at left m n last end h k read =
    subst (λ (n : ℕ). Read count position o at left n last end) (ok_is n m (sym k ∙ h)) read

reads : (count position : ℕ) (o : Office) (at : ℕ) (left : List ℕ) (size : ℕ) (last : Office)
    (end : FollowEnd) → length_read at left ≡ Ok size
    → Follows (Inside (suc count) position) o at left last end
    → Read count position o at left size last end
reads count position o at left size _ end h (outside e) = r_free (by_outside e)
reads count position o at left size _ end h (length_ends k) =
    absurd (not_both size end (sym h ∙ k))
reads count position o at left size _ end h (record_ends {size = n} k l) =
    at_size count position o at left size n o end h k (r_ends refl l)
reads count position o at left size _ _ h (differs {size = n} {e = e} {held = held} k l s d) =
    at_size count position o at left size n o (ends.Diverges position) h k
    (r_differs e held refl refl l s d)
reads count position o at left size last end h
    (is_held {size = n} {e = e} {held = held} k l s d f) =
    at_size count position o at left size n last end h k (r_held e held l s d f)
reads count position o at left size _ _ h (illegal {size = n} {e = e} k l s d) =
    at_size count position o at left size n o (ends.Illegal position) h k
    (r_illegal e refl refl l s d)
reads count position o at left size _ end h (disk_ends k l s m d) = r_free (by_disk d)
reads count position o at left size last end h (taken {size = n} {e = e} k l s m f) =
    at_size count position o at left size n last end h k (r_taken e l s m f)

same_read : (at size : ℕ) (left : List ℕ) (e x : Entry) → record_read at size left ≡ Ok e
    → record_read at size left ≡ Ok x → x ≡ e
same_read at size left e x h k = ok_is x e (sym k ∙ h)

not_there : (o : Office) (position : ℕ) (held : Entry) → slice_get o.history position ≡ Some held
    → position ≡ length o.history → ⊥
not_there o position held s is =
    absurd (none (sym (slice_get_past o.history position (omega (arith, is))) ∙ s))
  where
    none : None ≡ Some held → ⊥
    none e = absurd cc

same_held : (a b : Entry) → Some a ≡ Some b → a ≡ b
same_held a b e = cc e

after_head : (o : Office) (at : ℕ) (left : List ℕ) (first count : ℕ) (l1 l2 : Office)
    (e1 e2 : FollowEnd)
    → (Follows (Inside count first) o (at + 20) (drop 20 left) l2 e2 → Agree l1 e1 l2 e2)
    → Went o at left first count l2 e2 → Agree l1 e1 l2 e2
after_head o at left first count l1 l2 e1 e2 again (freed e) = other_free e
after_head o at left first count l1 l2 e1 e2 again (went g) = again g

after_end : (o : Office) (at : ℕ) (left : List ℕ) (l1 l2 : Office) (e1 e2 : FollowEnd)
    → (Follows Between o at left l2 e2 → Agree l1 e1 l2 e2)
    → Nexted o at left l2 e2 → Agree l1 e1 l2 e2
after_end o at left l1 l2 e1 e2 again (freed_next e) = other_free e
after_end o at left l1 l2 e1 e2 again (nexted g) = again g

module_ends : (c p : ℕ) (o : Office) (at : ℕ) (left : List ℕ) (n : ℕ) (l2 : Office)
    (e1 e2 : FollowEnd) → record_read at n (drop 4 left) ≡ Err e1
    → Read c p o at left n l2 e2 → Agree o e1 l2 e2
module_ends c p o at left n l2 e1 e2 h (r_free e) = other_free e
module_ends c p o at left n l2 e1 e2 h (r_ends is k) =
    alike (sym is) (err_is {A = Entry} e1 e2 (sym h ∙ k))
module_ends c p o at left n l2 e1 e2 h (r_differs x held is end k s d) =
    absurd (not_both x e1 (sym k ∙ h))
module_ends c p o at left n l2 e1 e2 h (r_held x held k s d f) = absurd (not_both x e1 (sym k ∙ h))
module_ends c p o at left n l2 e1 e2 h (r_illegal x is end k s d) =
    absurd (not_both x e1 (sym k ∙ h))
module_ends c p o at left n l2 e1 e2 h (r_taken x k s m f) = absurd (not_both x e1 (sym k ∙ h))

against_differs : (c p : ℕ) (o : Office) (at : ℕ) (left : List ℕ) (n : ℕ) (l2 : Office)
    (e2 : FollowEnd) (e held : Entry) → record_read at n (drop 4 left) ≡ Ok e
    → slice_get o.history p ≡ Some held → (record_of held ≡ record_of e → ⊥)
    → Read c p o at left n l2 e2 → Agree o (ends.Diverges p) l2 e2
against_differs c p o at left n l2 e2 e held h s d (r_free out) = other_free out
against_differs c p o at left n l2 e2 e held h s d (r_ends is k) =
    absurd (not_both e e2 (sym h ∙ k))
against_differs c p o at left n l2 e2 e held h s d (r_differs x held2 is end k s2 d2) =
    alike (sym is) (sym end)
against_differs c p o at left n l2 e2 e held h s d (r_held x held2 k s2 same f) =
    absurd (d (ap record_of (same_held held held2 (sym s ∙ s2)) ∙ same
    ∙ ap record_of (same_read at n (drop 4 left) e x h k)))
against_differs c p o at left n l2 e2 e held h s d (r_illegal x is end k there refused) =
    absurd (not_there o p held s there)
against_differs c p o at left n l2 e2 e held h s d (r_taken x k there m f) =
    absurd (not_there o p held s there)

against_held : (c p : ℕ) (o : Office) (at : ℕ) (left : List ℕ) (n : ℕ) (l1 l2 : Office)
    (e1 e2 : FollowEnd) (e held : Entry) → record_read at n (drop 4 left) ≡ Ok e
    → slice_get o.history p ≡ Some held → record_of held ≡ record_of e
    → (Follows (Inside c (suc p)) o (at + 4 + n) (drop n (drop 4 left)) l2 e2 → Agree l1 e1 l2 e2)
    → Read c p o at left n l2 e2 → Agree l1 e1 l2 e2
against_held c p o at left n l1 l2 e1 e2 e held h s d again (r_free out) = other_free out
against_held c p o at left n l1 l2 e1 e2 e held h s d again (r_ends is k) =
    absurd (not_both e e2 (sym h ∙ k))
against_held c p o at left n l1 l2 e1 e2 e held h s d again (r_differs x held2 is end k s2 d2) =
    absurd (d2 (ap record_of (same_held held2 held (sym s2 ∙ s)) ∙ d
    ∙ ap record_of (same_read at n (drop 4 left) x e k h)))
against_held c p o at left n l1 l2 e1 e2 e held h s d again (r_held x held2 k s2 same f) = again f
against_held c p o at left n l1 l2 e1 e2 e held h s d again (r_illegal x is end k there refused) =
    absurd (not_there o p held s there)
against_held c p o at left n l1 l2 e1 e2 e held h s d again (r_taken x k there m f) =
    absurd (not_there o p held s there)

against_illegal : (c p : ℕ) (o : Office) (at : ℕ) (left : List ℕ) (n : ℕ) (l2 : Office)
    (e2 : FollowEnd) (e : Entry) → record_read at n (drop 4 left) ≡ Ok e → p ≡ length o.history
    → (MayFollow o e → ⊥) → Read c p o at left n l2 e2 → Agree o (ends.Illegal p) l2 e2
against_illegal c p o at left n l2 e2 e h there refused (r_free out) = other_free out
against_illegal c p o at left n l2 e2 e h there refused (r_ends is k) =
    absurd (not_both e e2 (sym h ∙ k))
against_illegal c p o at left n l2 e2 e h there refused (r_differs x held2 is end k s2 d2) =
    absurd (not_there o p held2 s2 there)
against_illegal c p o at left n l2 e2 e h there refused (r_held x held2 k s2 same f) =
    absurd (not_there o p held2 s2 there)
against_illegal c p o at left n l2 e2 e h there refused (r_illegal x is end k there2 refused2) =
    alike (sym is) (sym end)
against_illegal c p o at left n l2 e2 e h there refused (r_taken x k there2 m f) =
    absurd (refused (subst (MayFollow o) (same_read at n (drop 4 left) e x h k) m))

against_taken : (c p : ℕ) (o : Office) (at : ℕ) (left : List ℕ) (n : ℕ) (l1 l2 : Office)
    (e1 e2 : FollowEnd) (e : Entry) → record_read at n (drop 4 left) ≡ Ok e → p ≡ length o.history
    → MayFollow o e
    → (Follows (Inside c (suc p)) (with_entry o e) (at + 4 + n) (drop n (drop 4 left)) l2 e2
    → Agree l1 e1 l2 e2)
    → Read c p o at left n l2 e2 → Agree l1 e1 l2 e2
against_taken c p o at left n l1 l2 e1 e2 e h there may again (r_free out) = other_free out
against_taken c p o at left n l1 l2 e1 e2 e h there may again (r_ends is k) =
    absurd (not_both e e2 (sym h ∙ k))
against_taken c p o at left n l1 l2 e1 e2 e h there may again (r_differs x held2 is end k s2 d2) =
    absurd (not_there o p held2 s2 there)
against_taken c p o at left n l1 l2 e1 e2 e h there may again (r_held x held2 k s2 same f) =
    absurd (not_there o p held2 s2 there)
against_taken c p o at left n l1 l2 e1 e2 e h there may again
    (r_illegal x is end k there2 refused2) =
    absurd (refused2 (subst (MayFollow o) (same_read at n (drop 4 left) x e k h) may))
against_taken c p o at left n l1 l2 e1 e2 e h there may again (r_taken x k there2 m f) =
    again (subst (λ (x : Entry). Follows (Inside c (suc p)) (with_entry o x) (at + 4 + n)
    (drop n (drop 4 left)) l2 e2) (same_read at n (drop 4 left) e x h k) f)

pub one_end : HasOneEnd
one_end _ o at left _ _ l2 e2 (done e) g = over_empty o at left l2 e2 e g
one_end place o at left _ e1 l2 e2 (outside e) g = one_free (by_outside e)
one_end _ o at left _ e1 l2 e2 (head_ends some h) g = ended_head o at left e1 l2 e2 some h g
one_end _ o at left l1 e1 l2 e2 (head_passes {first = first} {count = count} some h f) g =
    after_head o at left first count l1 l2 e1 e2
    (one_end (Inside count first) o (at + 20) (drop 20 left) l1 e1 l2 e2 f)
    (passed_head o at left first count l2 e2 some h g)
one_end _ o at left l1 e1 l2 e2 (feed_ends {position = p} f) g =
    after_end o at left l1 l2 e1 e2 (one_end Between o at left l1 e1 l2 e2 f)
    (at_feed_end o at left p l2 e2 g)
one_end _ o at left _ e1 l2 e2 (length_ends {count = c} {position = p} h) g =
    ended_length c p o at left e1 l2 e2 h g
one_end _ o at left _ e1 l2 e2 (record_ends {count = c} {position = p} {size = n} h k) g =
    module_ends c p o at left n l2 e1 e2 k (reads c p o at left n l2 e2 h g)
one_end _ o at left _ _ l2 e2
    (differs {count = c} {position = p} {size = n} {e = e} {held = held} h k s d) g =
    against_differs c p o at left n l2 e2 e held k s d (reads c p o at left n l2 e2 h g)
one_end _ o at left l1 e1 l2 e2
    (is_held {count = c} {position = p} {size = n} {e = e} {held = held} h k s d f) g =
    against_held c p o at left n l1 l2 e1 e2 e held k s d
    (one_end (Inside c (suc p)) o (at + 4 + n) (drop n (drop 4 left)) l1 e1 l2 e2 f)
    (reads c p o at left n l2 e2 h g)
one_end _ o at left _ _ l2 e2 (illegal {count = c} {position = p} {size = n} {e = e} h k s d) g =
    against_illegal c p o at left n l2 e2 e k s d (reads c p o at left n l2 e2 h g)
one_end _ o at left _ e1 l2 e2 (disk_ends h k s m d) g = one_free (by_disk d)
one_end _ o at left l1 e1 l2 e2
    (taken {count = c} {position = p} {size = n} {e = e} h k s m f) g =
    against_taken c p o at left n l1 l2 e1 e2 e k s m
    (one_end (Inside c (suc p)) (with_entry o e) (at + 4 + n) (drop n (drop 4 left)) l1 e1 l2 e2 f)
    (reads c p o at left n l2 e2 h g)
