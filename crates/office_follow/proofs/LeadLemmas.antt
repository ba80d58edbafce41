-- Following true feeds, with what a stop leaves.
use Rattle.std.proofs.Common.{ℕ, List, Option, subst}
use Rattle.office_outside.specs.Senses.{DiskSenses}
use Rattle.office_outside.proofs.Moments.{leaves_weaker}
use Rattle.office_history.specs.History.{Office}
use Rattle.office_keep.specs.Files.{StandsFor}
use Rattle.office_keep.specs.Office.{OfficeOn}
use Rattle.follow_terms.specs.declared.FollowEnd.{FollowEnd}
use Rattle.follow_terms.specs.declared.FollowEnd.TheVariants as ends
use Rattle.follow_terms.specs.Follows.{Between, Follows}
use Rattle.follow_terms.specs.Prefixes.{furthest}
use Rattle.follow_laws.specs.Laws.{HasFollowed, LeadsToTheHistory}
use Rattle.office_follow.specs.Followed.{LeadsTo, StandsForFront}
use Rattle.office_follow.specs.Points.{EndsFrom, FollowsWhere, LeavesFollowed, point}

module _ {D : Type 0} (S : DiskSenses D) where
  pub leads : LeadsToTheHistory → (old : OfficeOn D) (left : Option (List ℕ)) (faults : ℕ)
      (end : FollowEnd) (new : OfficeOn D) (now : ℕ)
      → EndsFrom S Between (point old 0 left faults) end new now → LeadsTo S old left end new
  leads law old left faults end new now ended origin g n asked bytes legal keepable most held told
      are = record {
        followed = came new.office end ended.comes;
        moments = leaves_weaker ended.moments (λ file stood. front file stood);
      }
    where
      came : (last : Office) (how : FollowEnd) → FollowsWhere Between old.office 0 left last how
          → HasFollowed origin g n (furthest g n asked) last how
      came last how f = law origin g n 0 asked bytes last how legal keepable most are
          (subst (λ (o : Office). Follows Between o 0 bytes last how) held
          (subst (λ (l : Option (List ℕ)). FollowsWhere Between old.office 0 l last how) told f))

      front : (file : List ℕ) → LeavesFollowed Between (point old 0 left faults) file
          → StandsForFront origin g n file
      front file (o, f, stands) =
          let h = came o ends.NoMemory f in
          record {
            reached = h.reached;
            least = h.least;
            most = h.most;
            stands = subst (λ (p : Office). StandsFor p file) h.office_is stands;
          }
