-- A new copy that is caught up with all changes may be written, and then switched to.
use Rattle.std.proofs.Common.{◌≡◌, ◌≤◌, ◌==◌, ◌&&◌, ◌+◌, ◌-◌, ◌*◌, ◌/◌, nat_le, ℕ, Bool, true}
use Rattle.std.proofs.Common.{false}
use Rattle.std.proofs.Common.{List, []}
use Rattle.std.proofs.Common.{◌∷◌, Option, Some, None, IfSome, if◌then◌else◌, length, filter, map}
use Rattle.std.proofs.Common.{refl}
use Rattle.std.proofs.Common.{sym, ◌∙◌, ap, subst, arith}
use Rattle.rg_base.specs.declared.control.Answer.{Answer}
use Rattle.rg_base.specs.declared.options.Options.{Options}
use Rattle.rg_base.specs.declared.row.Row.{Row}
use Rattle.rg_base.specs.declared.step.Step.TheVariants as steps
use Rattle.rg_translate.specs.RightCopy.Laws.{AreAllTaken}
use Rattle.rg_translate.proofs.RightCopyLemmas.Lying.{rows_now}
use Rattle.rg_translate.proofs.RightCopyLemmas.Right.{caught_quiet, caught_right}
use Rattle.rg_laws_utility.specs.ByteAccount.Account.{allowed_of}
use Rattle.rg_laws_utility.specs.ByteAccount.Reaching.{ReachesBy}
use Rattle.rg_laws_utility.proofs.ByteAccountLemmas.Reached.{feed_is_allowed}
use Rattle.rg_translate.proofs.RightCopyLemmas.Taking.{caught_claims, same_slots}
use Rattle.rg_desk.specs.Desk.{AreSides, CanCommit, CanPrepare, DeskState, HasCurrent, HasDrain}
use Rattle.rg_desk.specs.Desk.{IsAsWritten, IsNewSide, IsTask}
use Rattle.rg_engine.specs.Prepared.{PreparedSeen}
use Rattle.rg_outside.specs.Volume.{VolumeSeen}
use Rattle.rg_feed.specs.Ends.{Received}
use Rattle.rg_feed.specs.Fold.Fed.{Fed, Progress}
use Rattle.rg_feed.specs.Fold.Fold.{changes, since_begin}
use Rattle.rg_feed.specs.declared.fold.item.Item.{Item}
use Rattle.rg_feed.specs.declared.fold.item.Stage.{Stage}
use Rattle.rg_home.specs.Pages.{slot_of}
use Rattle.rg_home.specs.Rows.{row_at}
use Rattle.rg_image.specs.Rules.{copy_capacity}
use Rattle.rg_model.specs.Packed.{area_of, clustered_rows, home_spot, page_at, page_count}
use Rattle.rg_model.specs.Packed.{spots_from}
use Rattle.rg_model.specs.Quiet.{is_quiet}
use Rattle.rg_model.specs.Right.{is_packed, same_home_spot}
use Rattle.rg_model.specs.Same.{same_list}
use Rattle.rg_model.specs.State.{Table, entries_of}
use Rattle.rg_translate.proofs.PackedCopyLemmas.Sources.{sources_are}
use Rattle.rg_feed.specs.SentItems.Keeps.{LeadTo}
use Rattle.rg_shadow.specs.Shade.{Shade}
use Rattle.rg_stmt.specs.declared.layout.Side.{Side}
use Rattle.rg_stmt.specs.declared.layout.Sides.{Sides}
use Rattle.rg_stmt.specs.declared.layout.Spot.{Spot}
use Rattle.rg_base.specs.Copies.{other_of}
use Rattle.rg_model.specs.Run.{behind}
use Rattle.rg_engine.specs.CopyPages.Stamped.{stamped_all}
use Rattle.rg_engine.proofs.CopyPagesLemmas.Stamping.{slots_of-stamped_first}
use Rattle.rg_phase.specs.Drafted.{IsDraftOf, IsReady}
use Rattle.std.specs.Prelude.{IfOk, Ok, Err}
use Rattle.std.specs.declared.result.Result.{Result}
use Rattle.rg_base.specs.declared.options.DrainState.{DrainState}
use Rattle.rg_desk.specs.declared.task.Task.{Task}
use Rattle.rg_model.specs.State.{Utility}
use Rattle.rg_rules.specs.Stage.NumbersOf.{numbers_of}
use Rattle.rg_phase.specs.Made.{HasMade, Hears, Keeps, PacksAlike, TaskMakes, numbers_in}
use Rattle.rg_phase.specs.Working.{AreSidesToSwitch, IsDueAt, MakesStep}
use Rattle.rg_phase.specs.declared.made.Made.{Made}
use Rattle.rg_phase.specs.declared.made.Made.TheVariants.{Nothing, Packing, Drafted, Written}
use Rattle.rg_phase.proofs.Due.{altered}

-- ---- what the items lead to

abbrev pub progress_of : Stage → (changes : ℕ) → Progress
progress_of s n = record { pages = s.pages; copied = s.copied; changes = n }

pub fed_now : {V O : Type 0} (desk : DeskState V O) (inlet : Received) (s : Stage)
    → Hears desk inlet → desk.stage ≡ Some s → s.switched ≡ false
    → Fed (row_at (slot_of desk.ground.pages)) (λ key. is_quiet key (behind [] desk.trace))
    (progress_of s desk.changes) desk.feed
fed_now desk inlet s hears stage unswitched =
    let keeps = hears.feed.keeps in
    let rows = row_at (slot_of desk.ground.pages) in
    let past = behind [] desk.trace in
    let leads = subst (λ (o : Option Stage). LeadTo rows past o desk.changes keeps.copied desk.feed)
    stage keeps.leads in
    (leads unswitched).1

pub changes_heard : {V O : Type 0} (desk : DeskState V O) (inlet : Received) (s : Stage)
    → Hears desk inlet → desk.stage ≡ Some s → s.switched ≡ false
    → length (changes (since_begin inlet.items)) ≡ desk.changes
changes_heard desk inlet s hears stage unswitched =
    ap (λ (xs : List Item). length (changes (since_begin xs))) hears.items
    ∙ (fed_now desk inlet s hears stage unswitched).counted

-- all is taken
pub all_taken : {V O : Type 0} (desk : DeskState V O) (inlet : Received) (s : Stage)
    (options : Options) (shade : Shade) → Hears desk inlet → s.copied ≡ s.pages
    → (draft : IsDraftOf options shade desk.feed inlet.taken)
    → inlet.taken ≡ length (changes (since_begin desk.feed))
    → AreAllTaken desk.feed (progress_of s desk.changes) draft.rows inlet.taken
all_taken desk inlet s options shade hears copied draft none = record {
  lawful = hears.feed.keeps.ordered.lawful;
  all = copied;
  none_left = none;
  moved = draft.moved;
  order = draft.order;
}

-- ---- it may be written

pub can_prepare : {V O : Type 0} (look : V → VolumeSeen) (desk : DeskState V O) (inlet : Received)
    (s : Stage) (options : Options) (shade : Shade) → HasDrain desk → Hears desk inlet
    → desk.stage ≡ Some s → s.switched ≡ false → s.copied ≡ s.pages
    → IsDraftOf options shade inlet.items inlet.taken
    → inlet.taken ≡ length (changes (since_begin inlet.items))
    → IsReady (other_of desk.copy)
    (copy_capacity (look desk.volume).capacities (other_of desk.copy)) shade
    → CanPrepare look desk shade
can_prepare look desk inlet s options shade drained hears stage unswitched copied made none ready =
    let draft =
    subst (λ (xs : List Item). IsDraftOf options shade xs inlet.taken) hears.items made in
    let rows = row_at (slot_of desk.ground.pages) in
    let quiet : ℕ → Bool = λ key. is_quiet key (behind [] desk.trace) in
    let now = rows_now rows (progress_of s desk.changes) desk.feed options draft.rows draft.first
    shade inlet.taken quiet (fed_now desk inlet s hears stage unswitched) copied
    (none ∙ ap (λ (xs : List Item). length (changes (since_begin xs))) hears.items) draft.caught in
    record {
      drained = drained;
      other = record { copy = ready.copy_is; capacity = ready.capacity_is; built = ready.built };
      rows = λ t is. sources_are shade rows t draft.caught.mapped now is;
    }

-- with positions it is the same copy
pub draft_stamped : (options : Options) (shade : Shade) (items : List Item) (taken at : ℕ)
    → IsDraftOf options shade items taken
    → IsDraftOf options (record shade { pages = stamped_all at shade.pages }) items taken
draft_stamped options shade items taken at draft = record {
  rows = draft.rows;
  first = draft.first;
  moved = draft.moved;
  order = draft.order;
  caught = same_slots options draft.rows draft.first shade items taken (stamped_all at shade.pages)
      (slots_of-stamped_first at (length shade.pages) shade.pages) draft.caught;
  within = draft.within;
}

-- ---- the options that packing goes by

spots_same : (a b : Options) → a.pctfree ≡ b.pctfree → a.freepage ≡ b.freepage
    → (k slot free : ℕ) (rows : List Row)
    → spots_from a k slot free rows ≡ spots_from b k slot free rows
spots_same a b e f k slot free [] = refl
spots_same a b e f k slot free (row ∷ rows) =
    let put : (pctfree freepage : ℕ) → (here next : List Spot) → List Spot =
    λ pctfree freepage here next.
    if nat_le (4064 * pctfree / 100 + area_of row) free
    then home_spot (page_at freepage k) slot row ∷ here
    else home_spot (page_at freepage (k + 1)) 0 row ∷ next in
    ap
    (λ (n : ℕ). put n a.freepage (spots_from a k (slot + 1) (free - area_of row) rows)
    (spots_from a (k + 1) 1 (4064 - area_of row) rows)) e
    ∙ ap
    (λ (n : ℕ). put b.pctfree n (spots_from a k (slot + 1) (free - area_of row) rows)
    (spots_from a (k + 1) 1 (4064 - area_of row) rows)) f
    ∙ ap
    (λ (xs : List Spot). put b.pctfree b.freepage xs
    (spots_from a (k + 1) 1 (4064 - area_of row) rows))
    (spots_same a b e f k (slot + 1) (free - area_of row) rows)
    ∙ ap
    (λ (xs : List Spot). put b.pctfree b.freepage
    (spots_from b k (slot + 1) (free - area_of row) rows) xs)
    (spots_same a b e f (k + 1) 1 (4064 - area_of row) rows)

packed_same : (a b : Options) → a.pctfree ≡ b.pctfree → a.freepage ≡ b.freepage
    → (t : Table) (side : Side) → is_packed a t side ≡ is_packed b t side
packed_same a b e f t side =
    let rows = clustered_rows (map (λ entry. entry.1) (entries_of t)) in
    let test : (freepage : ℕ) (spots : List Spot) → Bool = λ freepage spots.
    side.pages == page_count freepage (length (filter (λ spot. spot.place.slot == 0) spots))
    && same_list same_home_spot side.spots spots in
    ap (λ (n : ℕ). test n (spots_from a 0 0 0 rows)) f
    ∙ ap (λ (spots : List Spot). test b.freepage spots) (spots_same a b e f 0 0 0 rows)

-- ---- it may be switched to

pub sides_right : {V O : Type 0} (desk : DeskState V O) (inlet : Received) (s : Stage)
    (options : Options) (sides : Sides) → Hears desk inlet → desk.stage ≡ Some s
    → s.switched ≡ false → s.copied ≡ s.pages
    → IfSome desk.shadow (λ p. IsDraftOf options p.shade inlet.items inlet.taken)
    → inlet.taken ≡ length (changes (since_begin inlet.items)) → options.pctfree ≡ s.options.pctfree
    → options.freepage ≡ s.options.freepage → HasCurrent desk → AreSides desk sides
    → sides.new.pages ≡ s.shadow → AreSidesToSwitch desk s sides
sides_right desk inlet s options sides hears stage unswitched copied written none pctfree freepage
    current are as_written = record {
      current = current;
      are = are;
      as_written = as_written;
      claims = λ start stored.
          omega (
            arith,
            caught_claims options draft.rows draft.first current.shadow.shade desk.feed inlet.taken
                draft.moved draft.caught,
            feed_is_allowed (row_at (slot_of desk.ground.pages)) s (allowed_of start desk.trace)
                desk.feed
                (subst
                (λ (o : Option Stage). ReachesBy (row_at (slot_of desk.ground.pages)) o
                (allowed_of start desk.trace) desk.feed) stage (hears.feed.reaches start stored))
                unswitched (omega (arith, copied)) hears.feed.keeps.ordered.lawful,
          );
      quiet =
          caught_quiet (row_at (slot_of desk.ground.pages)) (progress_of s desk.changes) desk.feed
          options draft.rows draft.first current.shadow.shade inlet.taken (behind [] desk.trace)
          sides.new fed done draft.caught new.1;
      packed = λ unchanged t is.
          sym (packed_same options s.options pctfree freepage t sides.new)
          ∙
          (caught_right (row_at (slot_of desk.ground.pages)) (progress_of s desk.changes) desk.feed
          options draft.rows draft.first current.shadow.shade inlet.taken (behind [] desk.trace) t
          sides.new fed done draft.caught is new.0 new.1).packed (hears.feed.counted ∙ unchanged);
    }
  where
    new : IsNewSide sides.new current.shadow
    new = subst (λ (o : Option PreparedSeen). IfSome o (IsNewSide sides.new)) current.shadow_is
        are.new

    kept : IsDraftOf options current.shadow.shade inlet.items inlet.taken
    kept =
        subst
        (λ (o : Option PreparedSeen). IfSome o
        (λ p. IsDraftOf options p.shade inlet.items inlet.taken)) current.shadow_is written

    draft : IsDraftOf options current.shadow.shade desk.feed inlet.taken
    draft = subst (λ (xs : List Item). IsDraftOf options current.shadow.shade xs inlet.taken)
        hears.items kept

    fed : Fed (row_at (slot_of desk.ground.pages)) (λ key. is_quiet key (behind [] desk.trace))
        (progress_of s desk.changes) desk.feed
    fed = fed_now desk inlet s hears stage unswitched

    done : AreAllTaken desk.feed (progress_of s desk.changes) draft.rows inlet.taken
    done = all_taken desk inlet s options current.shadow.shade hears copied draft
        (none ∙ ap (λ (xs : List Item). length (changes (since_begin xs))) hears.items)

-- what is kept, where it is written
pub record IsWrittenBy (u : Utility) (drain : DrainState) (kept : Option PreparedSeen)
    (inlet : Received) : Type 0 where
  pub options : Options
  pub shadow : PreparedSeen
  pub shadow_is : kept ≡ Some shadow
  pub keeps : Keeps u drain options shadow
  pub draft : IsDraftOf options shadow.shade inlet.items inlet.taken

pub written_now : (u : Utility) (d : DrainState) (copy capacity : ℕ) (made : Made)
    (kept : Option PreparedSeen) (inlet : Received) → u.written ≡ true
    → HasMade u d copy capacity made kept inlet → IsWrittenBy u d kept inlet
written_now u d copy capacity Nothing kept inlet is h = absurd (cc (is, h.1.unwritten))
written_now u d copy capacity (Packing p) kept inlet is h = absurd (cc (is, h.2.unwritten))
written_now u d copy capacity (Drafted x) kept inlet is h = absurd (cc (is, h.2.unwritten))
written_now u d copy capacity (Written options) None inlet is h = absurd h
written_now u d copy capacity (Written options) (Some p) inlet is h = record {
  options = options;
  shadow = p;
  shadow_is = refl;
  keeps = h.0;
  draft = h.1;
}

-- under a drain, once the last LAST was made, all changes are taken
pub caught_up : {V O : Type 0} (look : V → VolumeSeen) (desk : DeskState V O) (inlet : Received)
    (task : Task) → IsTask look desk task → Hears desk inlet → (numbers_in task).switched ≡ false
    → (numbers_in task).last ≡ true → inlet.taken ≡ (numbers_in task).done
    → inlet.taken ≤ length (changes (since_begin inlet.items))
    → inlet.taken ≡ length (changes (since_begin inlet.items))
caught_up look desk inlet task begun hears unswitched last taken within =
    let s = task.stage in
    let same = (altered (numbers_of s) task.answer.command).same in
    let was_last : s.last ≡ true = sym (ap (λ (v : Utility). v.last) same) ∙ last in
    let was_not : s.switched ≡ false = sym (ap (λ (v : Utility). v.switched) same) ∙ unswitched in
    omega (
      arith,
      begun.caught was_last was_not,
      begun.changes,
      changes_heard desk inlet s hears begun.stage was_not,
      taken,
      ap (λ (v : Utility). v.done) same,
      within,
    )

-- the new copy that WRITTEN told of is that of the last record
pub current_now : {V O : Type 0} (look : V → VolumeSeen) (desk : DeskState V O) (inlet : Received)
    (task : Task) (made : Made) → IsTask look desk task → TaskMakes task made desk.shadow inlet
    → (numbers_in task).written ≡ true → HasCurrent desk
current_now look desk inlet task made begun makes is =
    let s = task.stage in
    let same = (altered (numbers_of s) task.answer.command).same in
    let written = written_now (numbers_in task) s.drain task.copy task.capacity made desk.shadow
    inlet is makes.made_is in
    let current = subst
    (λ (o : Option Stage). IsAsWritten o (Some written.shadow) (length desk.ground.log.records))
    begun.stage
    (subst
    (λ (k : Option PreparedSeen). IsAsWritten desk.stage k (length desk.ground.log.records))
    written.shadow_is begun.current) in
    record {
      shadow = written.shadow;
      shadow_is = written.shadow_is;
      current =
          current (sym (ap (λ (v : Utility). v.written) same) ∙ is)
          (sym (ap (λ (v : Utility). v.switched) same) ∙ makes.unswitched);
    }

pub sides_now : {V O : Type 0} (desk : DeskState V O) (inlet : Received) (task : Task) (made : Made)
    (sides : Sides) → Hears desk inlet → desk.stage ≡ Some task.stage
    → TaskMakes task made desk.shadow inlet
    → IsDueAt steps.Switch (numbers_in task) task.stage.drain
    → inlet.taken ≡ length (changes (since_begin inlet.items)) → HasCurrent desk
    → AreSides desk sides → AreSidesToSwitch desk task.stage sides
sides_now desk inlet task made sides hears stage makes due none current are =
    let s = task.stage in
    let now = altered (numbers_of s) task.answer.command in
    let written = written_now (numbers_in task) s.drain task.copy task.capacity made desk.shadow
    inlet due.1 makes.made_is in
    let alike : PacksAlike s.options (numbers_in task).options =
    subst (λ (v : Utility). PacksAlike s.options v.options) (sym now.same) now.alike in
    sides_right desk inlet s written.options sides hears stage
    (sym (ap (λ (v : Utility). v.switched) now.same) ∙ makes.unswitched)
    (omega (
      arith,
      makes.copied,
      due.0.copied,
      ap (λ (v : Utility). v.copied) now.same,
      ap (λ (v : Utility). v.pages) now.same,
    ))
    (subst
    (λ (o : Option PreparedSeen). IfSome o
    (λ p. IsDraftOf written.options p.shade inlet.items inlet.taken)) (sym written.shadow_is)
    written.draft)
    none (written.keeps.alike.pctfree ∙ sym alike.pctfree)
    (written.keeps.alike.freepage ∙ sym alike.freepage) current are
    ((subst (λ (o : Option PreparedSeen). IfSome o (IsNewSide sides.new)) written.shadow_is
    are.new).0
    ∙ written.keeps.pages ∙ ap (λ (v : Utility). v.shadow) now.same)

pub if_ok : {A E : Type 0} (r : Result A E) (P Q : A → Type 0) → ((x : A) → P x → Q x)
    → IfOk r P → IfOk r Q
if_ok (Ok x) P Q f h = f x h
if_ok (Err fault) P Q f h = tt

pub can_commit : {V O : Type 0} (desk : DeskState V O) (s : Stage) (answer : Answer) (sides : Sides)
    → desk.stage ≡ Some s → MakesStep s answer steps.Switch → AreSidesToSwitch desk s sides
    → CanCommit desk answer sides
can_commit {V} {O} desk s answer sides stage_is makes are = record {
  stage = s;
  stage_is = stage_is;
  unswitched = makes.unswitched;
  no_term = makes.no_term;
  step = makes.step_is;
  shadow = are.current.shadow;
  shadow_is = are.current.shadow_is;
  current = are.current.current;
  claims = are.claims;
  as_written = are.as_written;
  old_side = are.are.old;
  new_side = subst (λ (o : Option PreparedSeen). IfSome o (IsNewSide sides.new))
      are.current.shadow_is are.are.new;
  right = are.are.right;
  quiet = are.quiet;
  packed = are.packed;
}
