-- What a utility has made, from line to line.
use Rattle.std.proofs.Common.{◌≡◌, ◌++◌, ◌∷◌, inl, inr, ℕ, Bool, true, false, List, [], Option}
use Rattle.std.proofs.Common.{Some, None, refl, sym, ◌∙◌, ap, subst, append-nil, append_assoc}
use Rattle.std.proofs.Common.{arith}
use Rattle.std.specs.Prelude.{IfOk, Ok, Err}
use Rattle.std.specs.declared.result.Result.{Result}
use Rattle.rg_base.specs.Copies.{other_of}
use Rattle.rg_base.specs.declared.options.Options.{Options}
use Rattle.rg_desk.specs.Desk.{DeskState, IsStart, MadeStart, SameUtility, Stays}
use Rattle.rg_model.specs.State.{Utility}
use Rattle.rg_model.specs.Utility.{new_utility, starts_utility}
use Rattle.rg_engine.specs.Prepared.{PreparedSeen}
use Rattle.rg_engine.specs.Sends.{begin_items}
use Rattle.rg_engine.specs.Utility.{IsNew}
use Rattle.rg_feed.specs.Ends.{Received, still_taken}
use Rattle.rg_feed.specs.declared.fold.item.Item.{Item}
use Rattle.rg_feed.specs.declared.fold.item.Item.TheVariants.{Begin, PageCopy, Booked}
use Rattle.rg_feed.specs.declared.fold.item.Item.TheVariants.{Change as OneChange}
use Rattle.rg_feed.specs.declared.fold.item.Stage.{Stage}
use Rattle.rg_image.specs.Rules.{copy_capacity}
use Rattle.rg_log.specs.Kept.{Listed}
use Rattle.rg_outside.specs.Volume.{VolumeSeen}
use Rattle.rg_phase.specs.Made.{HasSwitched, IsBehind, IsMadeAt, MakesCopy, Works}
use Rattle.rg_phase.specs.declared.made.Made.{Made}
use Rattle.rg_phase.specs.declared.made.Made.TheVariants.{Nothing}
use Rattle.rg_phase.proofs.Booking.{works_none}
use Rattle.rg_phase.proofs.Receiving.{works_more, works_moved}
use Rattle.rg_rules.specs.Stage.NumbersOf.{numbers_of}
use Rattle.rg_stmt.specs.declared.event.Event.{Event}
use Rattle.rg_stmt.specs.declared.event.Event.TheVariants as events

-- a line that is no step leaves it
pub works_same : {V O : Type 0} (look : V → VolumeSeen) (made : Made) (inlet : Received)
    (old new : DeskState V O) → SameUtility old new → Stays look old new
    → Works look made inlet old → Works look made inlet new
works_same {V} {O} look made inlet old new same stays works =
    let grown : DeskState V O = record old { feed = new.feed } in
    works_moved look made inlet grown new same.stage stays.copy stays.calls.capacities same.shadow
    refl
    (works_more old.stage (other_of old.copy)
    (copy_capacity (look old.volume).capacities (other_of old.copy)) made old.shadow inlet old.feed
    new.feed same.feed works)

-- at an opening nothing is made, and the desk keeps no new copy
pub works_opened : {V O : Type 0} (look : V → VolumeSeen) (made : Made) (inlet : Received)
    (desk : DeskState V O) → desk.stage ≡ None → desk.shadow ≡ None
    → IsBehind inlet.items desk.feed → Works look made inlet desk
works_opened look made inlet desk stage none behind =
    works_none look made inlet desk stage none behind

pub opened_works : {V O E : Type 0} (look : V → VolumeSeen) (r : Result (DeskState V O) E)
    (made : Made) (inlet : Received) → IfOk r (λ d. d.stage ≡ None) → IfOk r (λ d. d.shadow ≡ None)
    → IfOk r (λ d. IsBehind inlet.items d.feed) → IfOk r (λ d. Works look made inlet d)
opened_works look (Ok desk) made inlet stage none behind =
    works_opened look made inlet desk stage none behind
opened_works look (Err fault) made inlet stage none behind = tt

-- more was sent than was received, whatever is made
behind_of : (o : Option Stage) (copy capacity : ℕ) (made : Made) (kept : Option PreparedSeen)
    (inlet : Received) (feed : List Item) → IsMadeAt o copy capacity made kept inlet feed
    → IsBehind inlet.items feed
behind_of None copy capacity made kept inlet feed h = h.1
behind_of (Some s) copy capacity made kept inlet feed (inl h) = (h.heard.more, h.heard.items)
behind_of (Some s) copy capacity made kept inlet feed (inr h) = h.behind

-- ---- a control statement

begins_none : (event : Event) → starts_utility event ≡ false → begin_items event ≡ []
begins_none (events.Started options copy pages) is = absurd (cc (is))
begins_none event is = refl

-- the stage is as it was where none was started
start_none : (down : Bool) (o : Option Stage) (options : Options) (copy pages : ℕ) (log : Listed)
    (event : Event) (next : Option Stage) → IsStart down o options copy pages log event next
    → starts_utility event ≡ false → next ≡ o
start_none true o options copy pages log event next is unstarted = is.1
start_none false (Some s) options copy pages log event next is unstarted = is.1
start_none false None options copy pages log (events.Started given of_copy of_pages) next is
    unstarted = absurd (cc (unstarted))
start_none false None options copy pages log (events.StartLogFull need left) next is unstarted =
    is.3
start_none false None options copy pages log events.StartNoMemory next is unstarted = is
start_none false None options copy pages log event next is unstarted = absurd is

still_begun : (xs : List Item) (given : Options) (count n : ℕ)
    → still_taken (xs ++ Begin given count ∷ []) n ≡ 0
still_begun [] given count n = refl
still_begun (Begin options pages ∷ xs) given count n = still_begun xs given count 0
still_begun (PageCopy page position rows ∷ xs) given count n = still_begun xs given count n
still_begun (OneChange change ∷ xs) given count n = still_begun xs given count n
still_begun (Booked stage ∷ xs) given count n = still_begun xs given count n

-- a new one has made nothing
new_works : (options : Options) (pages : ℕ) (o : Option Stage) (copy capacity : ℕ)
    (inlet : Received) (feed more : List Item) (given : Options) (count : ℕ)
    → IsNew options pages o → IsBehind inlet.items feed → more ≡ feed ++ Begin given count ∷ []
    → IsMadeAt o copy capacity Nothing None inlet more
new_works options pages None copy capacity inlet feed more given count is behind sent = absurd is
new_works options pages (Some s) copy capacity inlet feed more given count is behind sent =
    let n = is.0 in
    inl
    (record {
      unswitched = ap (λ (u : Utility). u.switched) n;
      copied =
          omega (
            arith,
            ap (λ (u : Utility). u.copied) n,
            ap (λ (u : Utility). u.pages) n,
          );
      made_is = (
        refl,
        record {
          filled = ap (λ (u : Utility). u.filled) n;
          reloaded = ap (λ (u : Utility). u.reloaded) n;
          sorted = ap (λ (u : Utility). u.sorted) n;
          built = ap (λ (u : Utility). u.built) n;
          done = ap (λ (u : Utility). u.done) n;
          unwritten = ap (λ (u : Utility). u.written) n;
        },
      );
      added = tt;
      heard = record {
        more = behind.0 ++ Begin given count ∷ [];
        items =
            sent ∙ ap (λ (xs : List Item). xs ++ Begin given count ∷ []) behind.1
            ∙ append_assoc inlet.items behind.0 (Begin given count ∷ []);
        taken =
            still_begun behind.0 given count inlet.taken
            ∙ sym (ap (λ (u : Utility). u.done) n);
      };
    })

start_new : (down : Bool) (o : Option Stage) (options : Options) (pages of_copy : ℕ) (log : Listed)
    (event : Event) (next : Option Stage) (copy capacity : ℕ) (inlet : Received)
    (feed more : List Item) → IsStart down o options of_copy pages log event next
    → starts_utility event ≡ true → IsBehind inlet.items feed → more ≡ feed ++ begin_items event
    → IsMadeAt next copy capacity Nothing None inlet more
start_new down o options pages of_copy log (events.Started given c n) next copy capacity inlet feed
    more is started behind sent = go down o is
  where
    go : (down : Bool) (o : Option Stage)
        → IsStart down o options of_copy pages log (events.Started given c n) next
        → IsMadeAt next copy capacity Nothing None inlet more
    go true o is = absurd (cc (is.0))
    go false (Some s) is = absurd (cc (is.0))
    go false None is =
        new_works options pages next copy capacity inlet feed more given n is.3 behind sent
start_new down o options pages of_copy log event next copy capacity inlet feed more is started
    behind sent = absurd (cc (started))

module _ {V O : Type 0} (look : V → VolumeSeen) (old new : DeskState V O) (options : Options)
    (started : Bool) (start : MadeStart look old options started new) (inlet : Received)
    (made : Made) (works : Works look made inlet old) where
  pub works_unstarted : started ≡ false → Works look made inlet new
  works_unstarted is =
      let none = sym start.started_is ∙ is in
      works_moved look made inlet old new
      (start_none old.down old.stage options old.copy _ old.ground.log start.event new.stage
      start.is none)
      start.stays.copy start.stays.calls.capacities start.shadow
      (start.feed ∙ ap (λ (xs : List Item). old.feed ++ xs) (begins_none start.event none)
      ∙ append-nil old.feed) works

  pub works_started : (last : DeskState V O) (now : Made) → started ≡ true
      → last ≡ record new { shadow = None } → now ≡ Nothing → Works look now inlet last
  works_started last now is same nothing =
      subst (λ (d : DeskState V O). Works look now inlet d) (sym same)
      (subst
      (λ (m : Made). IsMadeAt new.stage (other_of new.copy)
      (copy_capacity (look new.volume).capacities (other_of new.copy)) m None inlet new.feed)
      (sym nothing)
      (start_new old.down old.stage options _ old.copy old.ground.log start.event new.stage
      (other_of new.copy) (copy_capacity (look new.volume).capacities (other_of new.copy)) inlet
      old.feed new.feed start.is (sym start.started_is ∙ is)
      (behind_of old.stage (other_of old.copy)
      (copy_capacity (look old.volume).capacities (other_of old.copy)) made old.shadow inlet
      old.feed works)
      start.feed))
