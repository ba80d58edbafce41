-- What the statuses of `follow` say.
use Rattle.std.proofs.Common.{◌≡◌, inl, inr, ℕ, zero, suc, List, [], ◌∷◌, take}
use Rattle.std.proofs.Common.{Option, Some, refl, sym, ap, ◌∙◌, subst, arith}
use Rattle.std.specs.List.{AllByRecursion}
use Rattle.office_outside.specs.Disk.{All, LeavesOnly}
use Rattle.office_outside.specs.Senses.{DiskSenses}
use Rattle.record_form.specs.declared.Entry.{Entry}
use Rattle.record_form.specs.Ranges.{FitsRecord}
use Rattle.office_history.specs.History.{Office}
use Rattle.office_history.specs.Legal.{office}
use Rattle.office_keep.specs.Files.{StandsFor}
use Rattle.office_keep.specs.Laws.{OneHistory}
use Rattle.office_keep.specs.Office.{OfficeOn}
use Rattle.office_keep.specs.Opening.{IsBad, Opens}
use Rattle.follow_terms.specs.declared.FollowEnd.{FollowEnd}
use Rattle.follow_terms.specs.declared.FollowEnd.TheVariants as follow
use Rattle.follow_terms.specs.Prefixes.{furthest}
use Rattle.office_follow.specs.Followed.{StandsForFront}
use Rattle.journal_commands.specs.Following.{EndsFollowing, EndsOverOffice, FollowWorld}
use Rattle.journal_commands.specs.declared.FollowingEnd.{FollowingEnd}
use Rattle.journal_commands.specs.declared.FollowingEnd.TheVariants as ends
use Rattle.journal_commands.proofs.Sessions.{as_opened}
use Rattle.office_run.specs.Follow.{LeadsRun, SettledFollow, SettledStop}
use Rattle.office_run.specs.declared.ending.TheConstants.{BAD_FILE, DONE}
use Rattle.office_run.proofs.StatusLemmas.{unopened_bad}

module _ (status : ℕ) (old new : Option (List ℕ)) (before now : ℕ) where
  -- a stop of following is no bad file
  stop_good : (stop : FollowEnd) → SettledStop stop status old new before now → status ≡ BAD_FILE
      → ⊥
  stop_good follow.Done s e = omega (arith, s.0, e)
  stop_good follow.ReadFault s e = omega (arith, s.0, e)
  stop_good follow.TooLarge s e = omega (arith, s.0, e)
  stop_good follow.Cut s e = omega (arith, s.0, e)
  stop_good (follow.Broken at) (inl s) e = omega (arith, s.0, e)
  stop_good (follow.Broken at) (inr s) e = omega (arith, s.0, e)
  stop_good (follow.OtherOrigin origin) (inl s) e = omega (arith, s.0, e)
  stop_good (follow.OtherOrigin origin) (inr s) e = omega (arith, s.0, e)
  stop_good (follow.Gap at) (inl s) e = omega (arith, s.0, e)
  stop_good (follow.Gap at) (inr s) e = omega (arith, s.0, e)
  stop_good (follow.Diverges at) (inl s) e = omega (arith, s.0, e)
  stop_good (follow.Diverges at) (inr s) e = omega (arith, s.0, e)
  stop_good (follow.Illegal at) (inl s) e = omega (arith, s.0, e)
  stop_good (follow.Illegal at) (inr s) e = omega (arith, s.0, e)
  stop_good follow.JournalFull s e = omega (arith, s.0, e)
  stop_good follow.DiskFault s e = omega (arith, s.0, e)
  stop_good follow.NoMemory s e = omega (arith, s.0, e)

  -- one that is done is that of the input's end
  stop_done : (stop : FollowEnd) → SettledStop stop status old new before now → status ≡ DONE
      → stop ≡ follow.Done
  stop_done follow.Done s e = refl
  stop_done follow.ReadFault s e = absurd (omega (arith, s.0, e))
  stop_done follow.TooLarge s e = absurd (omega (arith, s.0, e))
  stop_done follow.Cut s e = absurd (omega (arith, s.0, e))
  stop_done (follow.Broken at) (inl s) e = absurd (omega (arith, s.0, e))
  stop_done (follow.Broken at) (inr s) e = absurd (omega (arith, s.0, e))
  stop_done (follow.OtherOrigin origin) (inl s) e = absurd (omega (arith, s.0, e))
  stop_done (follow.OtherOrigin origin) (inr s) e = absurd (omega (arith, s.0, e))
  stop_done (follow.Gap at) (inl s) e = absurd (omega (arith, s.0, e))
  stop_done (follow.Gap at) (inr s) e = absurd (omega (arith, s.0, e))
  stop_done (follow.Diverges at) (inl s) e = absurd (omega (arith, s.0, e))
  stop_done (follow.Diverges at) (inr s) e = absurd (omega (arith, s.0, e))
  stop_done (follow.Illegal at) (inl s) e = absurd (omega (arith, s.0, e))
  stop_done (follow.Illegal at) (inr s) e = absurd (omega (arith, s.0, e))
  stop_done follow.JournalFull s e = absurd (omega (arith, s.0, e))
  stop_done follow.DiskFault s e = absurd (omega (arith, s.0, e))
  stop_done follow.NoMemory s e = absurd (omega (arith, s.0, e))

  pub follow_bad : {D : Type 0} (S : DiskSenses D) (first last : FollowWorld D)
      (end : FollowingEnd) → SettledFollow end status old new before now
      → EndsFollowing S end first last → status ≡ BAD_FILE → (file : List ℕ)
      → S.content first.disk ≡ Some file → IsBad file
  follow_bad S first last ends.Done s e is file read = absurd (omega (arith, s.0, is))
  follow_bad S first last (ends.Stopped stop) s e is file read = absurd (stop_good stop s is)
  follow_bad S first last ends.WriteFault s e is file read = absurd (omega (arith, s.0, is))
  follow_bad S first last ends.NoMemory s e is file read = absurd (omega (arith, s.0, is))
  follow_bad S first last (ends.Unopened why) s e is file read =
      unopened_bad status old new before now S first.disk why s e.0 is file read

  -- where the run is done all was followed
  came_done : {D : Type 0} (S : DiskSenses D) (o : OfficeOn D) (first last : FollowWorld D)
      (end : FollowingEnd) → SettledFollow end status old new before now
      → (over : EndsOverOffice S o end first last) → status ≡ DONE → over.came_to ≡ follow.Done
  came_done S o first last ends.Done s over is = over.told.0
  came_done S o first last (ends.Stopped stop) s over is =
      absurd (over.told.1 (stop_done stop s is))
  came_done S o first last ends.WriteFault s over is = over.told.0
  came_done S o first last ends.NoMemory s over is = over.told.0
  came_done S o first last (ends.Unopened why) s over is = absurd over.told

-- a front has records where the whole has
fitting_front : (n : ℕ) (g : List Entry) → AllByRecursion FitsRecord g
    → AllByRecursion FitsRecord (take n g)
fitting_front zero [] all = tt
fitting_front zero (e ∷ g) all = tt
fitting_front (suc n) [] all = tt
fitting_front (suc n) (e ∷ g) all = (all.0, fitting_front n g all.1)

module _ (law : OneHistory) (status : ℕ) (said told : Option (List ℕ)) (before now : ℕ) where
  -- over the office that was opened
  fronts : {D : Type 0} (S : DiskSenses D) (first last : FollowWorld D) (end : FollowingEnd)
      → SettledFollow end status said told before now
      → Opens S (λ o. EndsOverOffice S o end first last) first.disk
      → LeadsRun S status first.disk last.disk first.left
  fronts S first last end s opens origin g n asked file bytes legal keepable most read stands left
      are =
      let o = opens.office in
      let over = opens.so in
      let held : o.office ≡ office origin (take n g) =
      law o.office (office origin (take n g)) file (opens.opened.read file read)
      opens.opened.whole.fit stands (fitting_front n g keepable.fit) in
      let led = over.leads origin g n asked bytes legal keepable most held left are in
      inr (record {
        opened = o.disk;
        quiet = opens.opened.quiet;
        moments = subst (λ d. LeavesOnly S o.disk d (StandsForFront origin g n))
            (sym over.handed_back) led.moments;
        complete = λ is.
            let came = came_done status said told before now S o first last end s over is in
            let clear = over.followed.ended.clear (λ bad. absurd (cc (sym came ∙ bad))) in
            let same = led.followed.office_is
            ∙ ap (λ (m : ℕ). office origin (take m g)) (led.followed.whole came) in
            subst (λ d. All (StandsFor (office origin (take (furthest g n asked) g))) (S.images d))
            (sym over.handed_back)
            (subst (λ (p : Office). All (StandsFor p) (S.images over.last.disk)) same
            (as_opened S over.last clear over.followed.stands));
      })

  pub follow_leads : {D : Type 0} (S : DiskSenses D) (first last : FollowWorld D)
      (end : FollowingEnd) → SettledFollow end status said told before now
      → EndsFollowing S end first last → LeadsRun S status first.disk last.disk first.left
  follow_leads S first last ends.Done s e = fronts S first last ends.Done s e
  follow_leads S first last (ends.Stopped stop) s e = fronts S first last (ends.Stopped stop) s e
  follow_leads S first last ends.WriteFault s e = fronts S first last ends.WriteFault s e
  follow_leads S first last ends.NoMemory s e = fronts S first last ends.NoMemory s e
  follow_leads S first last (ends.Unopened why) s e = λ origin g n asked file bytes legal keepable
      most read stands left are. inl e.1
