-- One entry of a step is made, whatever the step did before it.
use Rattle.std.proofs.Common.{◌≡◌, ◌==◌, ◌++◌, if◌then◌else◌, inl, inr, ℕ, Bool, true, false, List}
use Rattle.std.proofs.Common.{[], ◌∷◌, Option, Some, None, IfSome, take, refl, sym, ◌∙◌, ap, subst}
use Rattle.std.proofs.Common.{arith}
use Rattle.std.specs.Option.{is_some}
use Rattle.rg_base.specs.declared.control.Answer.{Answer}
use Rattle.rg_base.specs.declared.session.Session.{Session}
use Rattle.rg_base.specs.declared.verdict.StopReason.TheVariants as reasons
use Rattle.rg_desk.specs.Desk.{DeskState, IsNextStep, MadeCopy, MadeFall, MadeStep, MadeSwitch}
use Rattle.rg_desk.specs.Desk.{Prepares}
use Rattle.rg_engine.specs.Flushed.{CallsOwn, WritesEither}
use Rattle.rg_engine.specs.Prepared.{PreparedSeen}
use Rattle.rg_engine.specs.Room.{Ground}
use Rattle.rg_engine.proofs.Flushing.{own_calls}
use Rattle.rg_outside.specs.Volume.{VolumeSeen}
use Rattle.rg_feed.specs.declared.fold.item.Item.{Item}
use Rattle.rg_feed.specs.declared.fold.item.Item.TheVariants.{PageCopy}
use Rattle.rg_feed.specs.declared.fold.item.Stage.{Stage}
use Rattle.rg_model.specs.Turn.{Turn, turn_of}
use Rattle.rg_outside.specs.Faults.{Rose}
use Rattle.rg_outside.proofs.Frame.{no_calls}
use Rattle.rg_laws_utility.specs.CopyWeight.Weighed.{weigh_feed}
use Rattle.rg_rules.specs.Stage.NumbersOf.{numbers_of}
use Rattle.rg_stmt.specs.declared.event.Entry.{Entry}
use Rattle.rg_stmt.specs.declared.event.Event.{Event}
use Rattle.rg_stmt.specs.declared.event.Event.TheVariants as events
use Rattle.rg_stmt.specs.declared.layout.Sides.{Sides}
use Rattle.rg_base.specs.Copies.{other_of, set_of}
use Rattle.rg_laws_utility.specs.TraceStage.Tending.{FollowsBy, NextBy, is_booked, is_plain}
use Rattle.rg_laws_utility.specs.TraceStage.Tending.{utility_entry}
use Rattle.rg_laws_utility.specs.Course.Loading.{Loading, loading_after}
use Rattle.rg_image.specs.Rules.{copy_capacity}
use Rattle.rg_phase.specs.Made.{IsAsMade}
use Rattle.rg_phase.specs.declared.made.Made.{Made}
use Rattle.rg_phase.specs.Step.{Acts, HasPagesFor, IsSwitchFrom, KeepsPages, Loads, Makes}
use Rattle.rg_phase.specs.Step.{NextMade, TellsCopy, copy_left, is_device_stop, is_made, may_call}
use Rattle.rg_phase.proofs.Loading.{shows_none, shows_same, shows_step, shows_switched, space_any}
use Rattle.rg_phase.specs.Working.{Writes}

-- ---- events

booked_made : (event : Event) → is_booked event ≡ true → is_made event ≡ true
booked_made (events.Switched copy sides) is = refl
booked_made (events.Unload page rows) is = refl
booked_made event is = is

booked_left : (copy : ℕ) (event : Event) → is_booked event ≡ true → copy_left copy event ≡ copy
booked_left copy (events.Switched to sides) is = absurd (cc (is))
booked_left copy event is = refl

booked_from : (copy : ℕ) (event : Event) → is_booked event ≡ true → IsSwitchFrom copy event
booked_from copy (events.Switched to sides) is = absurd (cc (is))
booked_from copy event is = tt

-- the other copy is another one
other_differs : (copy : ℕ) → other_of copy ≡ copy → ⊥
other_differs copy same = go (copy == 1) refl same
  where
    go : (b : Bool) → (copy == 1) ≡ b → (if b then 2 else 1) ≡ copy → ⊥
    go true is e = cc (subst (λ (n : ℕ). (n == 1) ≡ true) (sym e) is)
    go false is e = cc (subst (λ (n : ℕ). (n == 1) ≡ false) (sym e) is)

-- an event that is no switch leaves pages and marks as they were
pages_kept : {V O : Type 0} (old new : DeskState V O) (event : Event)
    → copy_left old.copy event ≡ old.copy → IsSwitchFrom old.copy event
    → new.contents ≡ old.contents → new.marks ≡ old.marks → KeepsPages old new event
pages_kept old new (events.Switched to sides) left from contents marks =
    absurd (other_differs old.copy (sym from ∙ left))
pages_kept old new event left from contents marks = (contents, marks)

pub plain_some : (o : Option Turn) → is_plain o ≡ true → is_some o ≡ true
plain_some None is = absurd (cc (is))
plain_some (Some turn) is = refl

-- a plain event that is booked is the next one
pub next_booked : (down : Bool) (stage : Option Stage) (changes : ℕ) (covered : Option Session)
    (answer : Answer) (event : Event) → NextBy down stage changes covered (Some answer) event
    → NextMade down stage changes covered (Some answer) event
next_booked true stage changes covered answer event next = absurd next
next_booked false None changes covered answer event next = absurd next
next_booked false (Some s) changes covered answer event next = (
  booked_made event next.0,
  plain_some (turn_of changes covered answer (numbers_of s) s.drain event) next.1,
)

-- an event that has the operator's answer is that of a desk that is up
next_up : (down : Bool) (stage : Option Stage) (changes : ℕ) (covered : Option Session)
    (answer : Answer) (event : Event) → NextMade down stage changes covered (Some answer) event
    → down ≡ true → ⊥
next_up true stage changes covered answer event next is = next
next_up false stage changes covered answer event next is = cc (is)

-- where a utility runs after a step that was booked, it ran before
runs_on : (down : Bool) (stage next : Option Stage) (changes : ℕ) (covered : Option Session)
    (answer : Option Answer) (event : Event)
    → FollowsBy down stage changes covered answer event next → is_some next ≡ true
    → is_some stage ≡ true
runs_on true stage next changes covered answer event follows runs =
    ap (λ (o : Option Stage). is_some o) (sym follows) ∙ runs
runs_on false None next changes covered answer event follows runs =
    ap (λ (o : Option Stage). is_some o) (sym follows) ∙ runs
runs_on false (Some s) next changes covered answer event follows runs = refl

-- ---- calls

-- nothing is called
still_own : {V : Type 0} (look : V → VolumeSeen) (copy : ℕ) (v w : V) → w ≡ v
    → CallsOwn copy (look v) (look w)
still_own {V} look copy v w same = subst (λ (x : V). CallsOwn copy (look v) (look x)) (sym same)
    (record {
      only = no_calls (WritesEither (set_of copy)) (look v).told;
      later = omega arith;
      capacities = refl;
    })

module _ {V O : Type 0} (look : V → VolumeSeen) where
  pub writes_none : (old : DeskState V O) → Writes look old old
  writes_none old = record {
    same = refl;
    ground = refl;
    calls = still_own look (other_of old.copy) old.volume old.volume refl;
  }

  pub writes_same : (old new : DeskState V O) → new ≡ old → Writes look old new
  writes_same old new same =
      subst (λ (d : DeskState V O). Writes look old d) (sym same) (writes_none old)

  pub writes_prepared : (old new : DeskState V O) (shadow : Option PreparedSeen)
      → Prepares look old shadow new → Writes look old new
  writes_prepared old new shadow p = record {
    same = p.same
        ∙ ap
        (λ (s : Option PreparedSeen). let d : DeskState V O =
        record old { ground = new.ground; shadow = s; volume = new.volume } in d)
        (sym (ap (λ (d : DeskState V O). d.shadow) p.same));
    ground = p.ground;
    calls = p.calls;
  }

  pub writes_shadow : (old new : DeskState V O) → new ≡ record old { shadow = new.shadow }
      → Writes look old new
  writes_shadow old new same = record {
    same = same
        ∙
        ap (λ (x : V). let d : DeskState V O = record old { shadow = new.shadow; volume = x } in d)
        (sym volume)
        ∙ ap
        (λ (g : Ground). let d : DeskState V O =
        record old { ground = g; shadow = new.shadow; volume = new.volume } in d) (sym ground);
    ground = ground
        ∙ ap
        (λ (n : ℕ).
        let g : Ground = record old.ground { log = record old.ground.log { forced = n } } in g)
        (sym (ap (λ (g : Ground). g.log.forced) ground));
    calls = still_own look (other_of old.copy) old.volume new.volume volume;
  }
    where
      volume : new.volume ≡ old.volume
      volume = ap (λ (d : DeskState V O). d.volume) same

      ground : new.ground ≡ old.ground
      ground = ap (λ (d : DeskState V O). d.ground) same

  -- the new copy that was kept is dropped
  pub writes_forgotten : (old new : DeskState V O) → new ≡ record old { shadow = None }
      → Writes look old new
  writes_forgotten old new same =
      writes_shadow old new
      (same
      ∙ ap (λ (x : Option PreparedSeen). let d : DeskState V O = record old { shadow = x } in d)
      (sym (ap (λ (d : DeskState V O). d.shadow) same)))

  -- a desk that is down, or over which no utility runs
  pub makes_refused : (old new : DeskState V O) (event : Event)
      → copy_left old.copy event ≡ old.copy → IsSwitchFrom old.copy event
      → is_device_stop event ≡ false → TellsCopy look old new event
      → MadeStep look old None event [] new → Makes look old None event new
  makes_refused old new event left from quiet told made = record {
    calls = made.calls;
    made = made.made;
    counted = made.counted;
    copy = made.stays.copy ∙ sym left;
    ring = made.stays.ring;
    to = from;
    capacity = inl made.stays.capacity;
    down = λ down. inl (sym made.down ∙ down);
    stays_down = λ down. made.down ∙ down;
    device = λ is. absurd (cc (is, quiet));
    quiet = λ is. made.volume;
    told = told;
    pages = λ up. pages_kept old new event left from made.contents made.marks;
    runs = runs_on old.down old.stage new.stage old.changes old.covered None event made.follows;
    kept = made.kept;
    operator = made.operator;
    older = made.stays.older;
    log_pages = made.stays.log_pages;
    opened = made.stays.opened;
    first_copy = made.stays.first_copy;
    old_same = made.stays.old_same;
  }

  -- it tells nothing of the new copy
  pub loads_refused : (old mid new : DeskState V O) (event : Event)
      → ((l : Option Loading) → loading_after l event ≡ l)
      → ((capacity weight : ℕ) (s : Stage) → HasPagesFor capacity weight s event)
      → mid.copy ≡ old.copy → mid.stage ≡ old.stage
      → FollowsBy mid.down mid.stage mid.changes mid.covered None event new.stage
      → new.copy ≡ mid.copy → Loads look old event new
  loads_refused old mid new event tells space copy stage follows same = record {
    space = space_any old.stage (copy_capacity (look old.volume).capacities (other_of old.copy))
        (weigh_feed old.feed) event
        (space (copy_capacity (look old.volume).capacities (other_of old.copy))
        (weigh_feed old.feed));
    shows = shows_same old.stage new.stage event old.copy new.copy (same ∙ copy)
        (stayed mid.down mid.stage follows ∙ stage) tells;
  }
    where
      stayed : (down : Bool) (o : Option Stage)
          → FollowsBy down o mid.changes mid.covered None event new.stage → new.stage ≡ o
      stayed true o follows = follows
      stayed false None follows = follows
      stayed false (Some s) follows = follows

  -- from the desk that was asked
  pub loads_asked : (old asked new : DeskState V O) (answer : Answer) (event : Event)
      → asked ≡ record old { spare = asked.spare; kept = Some answer; operator = asked.operator }
      → Loads look asked event new → Loads look old event new
  loads_asked old asked new answer event same loads =
      let moved : Loads look
      (record old { spare = asked.spare; kept = Some answer; operator = asked.operator }) event
      new = subst (λ (d : DeskState V O). Loads look d event new) same loads in
      record { space = moved.space; shows = moved.shows }

  module _ (old : DeskState V O) (answer : Answer) (made_of : Made) (taken : ℕ) where
    -- the event is as the other copy has room
    abbrev Space : Event → Type 0
    Space event = IfSome old.stage
        (λ s. HasPagesFor (copy_capacity (look old.volume).capacities (other_of old.copy))
        (weigh_feed old.feed) s event)

    -- a step was made, after a new copy was written or not
    acts_made : (mid new : DeskState V O) (event : Event) (items : List Item)
        → is_some old.stage ≡ true → Writes look old mid
        → NextMade old.down old.stage old.changes old.covered (Some answer) event
        → copy_left old.copy event ≡ old.copy → IsSwitchFrom old.copy event
        → (is_device_stop event ≡ true → Rose (look old.volume).faults (look mid.volume).faults)
        → (may_call event ≡ false → mid.volume ≡ old.volume) → TellsCopy look old new event
        → Space event → IsAsMade made_of old.stage taken event
        → MadeStep look mid (Some answer) event items new → Acts look old answer made_of taken new
    acts_made mid new event items runs wrote next left from device quiet tells space told made =
        record {
          event = event;
          told = told;
          next = next;
          loads = record {
            space = space;
            shows =
                shows_step old.down old.stage new.stage old.changes old.covered answer event
                old.copy
                new.copy (made.stays.copy ∙ copy) next
                (subst
                (λ (d : DeskState V O). FollowsBy d.down d.stage d.changes d.covered (Some answer)
                event
                new.stage) wrote.same made.follows);
          };
          made = record {
            calls = made.calls;
            made = made.made
                ∙ ap (λ (es : List Entry). es ++ utility_entry event (Some answer) made.calls ∷ [])
                (ap (λ (d : DeskState V O). d.trace) wrote.same);
            counted = made.counted;
            copy = made.stays.copy ∙ copy ∙ sym left;
            ring = made.stays.ring ∙ ap (λ (d : DeskState V O). d.ring) wrote.same;
            to = from;
            capacity = inl (made.stays.capacity ∙ ap (λ (g : Ground). g.capacity) wrote.ground);
            down = λ down.
                inl (sym (ap (λ (d : DeskState V O). d.down) wrote.same) ∙ sym made.down ∙ down);
            stays_down = λ down.
                made.down ∙ ap (λ (d : DeskState V O). d.down) wrote.same ∙ down;
            device = λ is. subst (λ (v : V). Rose (look old.volume).faults (look v).faults)
                (sym made.volume) (device is);
            quiet = λ is. made.volume ∙ quiet is;
            told = tells;
            pages = λ up.
                pages_kept old new event left from
                (made.contents ∙ ap (λ (d : DeskState V O). d.contents) wrote.same)
                (made.marks ∙ ap (λ (d : DeskState V O). d.marks) wrote.same);
            runs = λ is. runs;
            kept = made.kept;
            operator = made.operator ∙ ap (λ (d : DeskState V O). d.operator) wrote.same;
            older = made.stays.older ∙ ap (λ (d : DeskState V O). d.older) wrote.same;
            log_pages = made.stays.log_pages ∙ ap (λ (g : Ground). g.log.pages) wrote.ground;
            opened = made.stays.opened ∙ ap (λ (d : DeskState V O). d.opened) wrote.same;
            first_copy =
                made.stays.first_copy ∙ ap (λ (d : DeskState V O). d.first_copy) wrote.same;
            old_same =
                made.stays.old_same
                ∙ ap (λ (g : Ground). take mid.opened g.log.records) wrote.ground
                ∙ ap (λ (n : ℕ). take n old.ground.log.records)
                (ap (λ (d : DeskState V O). d.opened) wrote.same);
          };
          only = (
            runs,
            subst (λ (v : V). CallsOwn (other_of old.copy) (look old.volume) (look v))
                (sym made.volume)
                wrote.calls,
          );
        }
      where
        copy : mid.copy ≡ old.copy
        copy = ap (λ (d : DeskState V O). d.copy) wrote.same

    -- it was booked
    pub acts_booked : (mid new : DeskState V O) (event : Event) → is_some old.stage ≡ true
        → Writes look old mid → IsNextStep old (Some answer) event → is_booked event ≡ true
        → (is_device_stop event ≡ true → Rose (look old.volume).faults (look mid.volume).faults)
        → (may_call event ≡ false → mid.volume ≡ old.volume) → TellsCopy look old new event
        → Space event → IsAsMade made_of old.stage taken event
        → MadeStep look mid (Some answer) event [] new → Acts look old answer made_of taken new
    acts_booked mid new event runs wrote next booked device quiet tells space told made =
        acts_made mid new event [] runs wrote
        (next_booked old.down old.stage old.changes old.covered answer event next)
        (booked_left old.copy event booked) (booked_from old.copy event booked) device quiet tells
        space told made

    -- a page was copied
    pub acts_copied : (mid new : DeskState V O) (page rows : ℕ) → is_some old.stage ≡ true
        → Writes look old mid → mid.volume ≡ old.volume
        → NextMade old.down old.stage old.changes old.covered (Some answer)
        (events.Unload page rows)
        → MadeCopy look mid answer page rows new → Acts look old answer made_of taken new
    acts_copied mid new page rows runs wrote still next made =
        acts_made mid new (events.Unload page rows) (PageCopy page made.position made.copied ∷ [])
        runs wrote next refl tt (λ is. absurd (cc (is))) (λ is. still) tt
        (space_any old.stage (copy_capacity (look old.volume).capacities (other_of old.copy))
        (weigh_feed old.feed) (events.Unload page rows) (λ s. tt)) tt made.made

    -- the copies were switched
    pub acts_switched : (new : DeskState V O) (sides : Sides) → is_some old.stage ≡ true
        → NextMade old.down old.stage old.changes old.covered (Some answer)
        (events.Switched (other_of old.copy) sides)
        → MadeSwitch look old answer sides new → Acts look old answer made_of taken new
    acts_switched new sides runs next made = record {
      event = events.Switched (other_of old.copy) sides;
      told = tt;
      next = next;
      loads = record {
        space = space_any old.stage (copy_capacity (look old.volume).capacities (other_of old.copy))
            (weigh_feed old.feed) (events.Switched (other_of old.copy) sides) (λ s. tt);
        shows = shows_switched old.stage new.stage made.stage
            (events.Switched (other_of old.copy) sides) old.copy new.copy made.stage_is
            made.switched;
      };
      made = record {
        calls = made.calls;
        made = made.made;
        counted = made.counted;
        copy = made.copy;
        ring = made.stays.ring;
        to = refl;
        capacity = inr made.capacity;
        down = λ down. absurd (cc (down, made.down));
        stays_down = λ down.
            absurd (next_up old.down old.stage old.changes old.covered answer
            (events.Switched (other_of old.copy) sides) next down);
        device = λ is. absurd (cc (is));
        quiet = λ is. absurd (cc (is));
        told = record {
          shadow = made.shadow;
          shadow_is = made.shadow_is;
          taken = made.taken;
          reads = made.reads;
          ready = made.ready;
          old_side = made.old_side;
          new_side = made.new_side;
        };
        pages = λ up. made.clean;
        runs = λ is. runs;
        kept = made.stays.kept;
        operator = made.stays.operator;
        older = made.stays.older;
        log_pages = made.stays.log_pages;
        opened = made.stays.opened;
        first_copy = made.stays.first_copy;
        old_same = made.stays.old_same;
      };
      only = (
        runs,
        own_calls (other_of old.copy) (look old.volume) (look new.volume) made.stays.calls,
      );
    }

    -- the record of the switch could not be forced
    pub acts_fallen : (new : DeskState V O) → is_some old.stage ≡ true
        → NextMade old.down old.stage old.changes old.covered (Some answer)
        (events.Stop reasons.Device)
        → MadeFall look old answer new → Acts look old answer made_of taken new
    acts_fallen new runs next made = record {
      event = events.Stop reasons.Device;
      told = tt;
      next = next;
      loads = record {
        space = space_any old.stage (copy_capacity (look old.volume).capacities (other_of old.copy))
            (weigh_feed old.feed) (events.Stop reasons.Device) (λ s. tt);
        shows = shows_none old.stage new.stage (events.Stop reasons.Device) old.copy new.copy
            made.stage;
      };
      made = record {
        calls = made.calls;
        made = made.made;
        counted = made.counted;
        copy = made.copy;
        ring = made.stays.ring;
        to = tt;
        capacity = inl made.capacity;
        down = λ down. inr made.device;
        stays_down = λ down. made.down;
        device = λ is. made.device;
        quiet = λ is. absurd (cc (is));
        told = tt;
        pages = λ up. absurd (cc (up, made.down));
        runs = λ is. runs;
        kept = made.stays.kept;
        operator = made.stays.operator;
        older = made.stays.older;
        log_pages = made.stays.log_pages;
        opened = made.stays.opened;
        first_copy = made.stays.first_copy;
        old_same = made.stays.old_same;
      };
      only = (
        runs,
        own_calls (other_of old.copy) (look old.volume) (look new.volume) made.stays.calls,
      );
    }
