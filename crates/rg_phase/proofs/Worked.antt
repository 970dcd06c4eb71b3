-- What is made by the numbers that a step leaves, where the step has made its part.
use Rattle.std.proofs.Common.{◌≡◌, ◌≤◌, ◌<◌, ◌+◌, ◌-◌, ℕ, List, [], ◌∷◌, Bool, true, false, Option}
use Rattle.std.proofs.Common.{Some, None, length, nat_le, ◌*◌, ◌/◌, if◌then◌else◌, refl, sym, ◌∙◌}
use Rattle.std.proofs.Common.{ap, subst, length-drop}
use Rattle.std.proofs.Common.{arith}
use Rattle.std.proofs.lemmas.List.Sorted.{length_permutation}
use Rattle.std.specs.Prelude.{IfOk, OnOk, Ok, Err}
use Rattle.std.specs.declared.result.Result.{Result}
use Rattle.std.specs.List.Sorted.{IsPermutation}
use Rattle.rg_base.specs.declared.options.DrainState.{DrainState}
use Rattle.rg_base.specs.declared.options.Options.{Options}
use Rattle.rg_base.specs.declared.place.Place.{Place}
use Rattle.rg_base.specs.declared.row.Row.{Row}
use Rattle.rg_base.specs.declared.step.Step.TheVariants as steps
use Rattle.rg_base.specs.declared.which.Which.{Which}
use Rattle.rg_desk.specs.declared.task.Task.{Task}
use Rattle.rg_base.specs.declared.no_memory.NoMemory.{NoMemory}
use Rattle.rg_engine.specs.Prepared.{PreparedSeen, shade_kept}
use Rattle.rg_laws_utility.specs.TraceStage.Tending.{IsForAll}
use Rattle.rg_feed.specs.Ends.{Received}
use Rattle.rg_feed.specs.Fold.Fold.{copied_rows, since_begin}
use Rattle.rg_reload.specs.Order.{IsInOrder}
use Rattle.rg_model.specs.Packed.{area_of, free_part, page_at, page_count}
use Rattle.rg_model.specs.State.{Utility}
use Rattle.rg_model.specs.Turn.{nth_which}
use Rattle.rg_reload.specs.Moved.{Moved, moved_from, moved_to, packed_rows}
use Rattle.rg_reload.specs.Pages.{slots_on}
use Rattle.rg_reload.proofs.Steps.{page_taken-high, page_taken-low}
use Rattle.rg_reload.specs.Reloading.{Fills, Reloading, rows_left}
use Rattle.rg_reload.specs.declared.fault.ReloadFault.{ReloadFault}
use Rattle.rg_reload.specs.declared.fault.ReloadFault.TheVariants as reloads
use Rattle.rg_reload.specs.declared.packer.Filled.{Filled}
use Rattle.rg_shadow.specs.Shade.{Shade, stage_in, with_stage}
use Rattle.rg_shadow.specs.declared.drafts.IndexStage.TheVariants.{Sorted, Built, Unsorted}
use Rattle.rg_rules.specs.Stage.NumbersOf.{numbers_of}
use Rattle.rg_phase.specs.Drafted.{IsDraftOf, IsPackingOf, LacksPageIfFull, SameRows}
use Rattle.rg_phase.specs.Made.{Drafts, IsUnfilled, Keeps, Packs, PacksAlike, StepMakes, after_back}
use Rattle.rg_phase.specs.Made.{after_build, after_reload, after_sort, after_take, after_write}
use Rattle.rg_phase.specs.Made.{numbers_in}
use Rattle.rg_phase.specs.Made.{stage_by}
use Rattle.rg_phase.specs.Working.{IsDueAt, IsIndexed, IsNextPage}
use Rattle.rg_phase.specs.declared.draft.Draft.{Draft}
use Rattle.rg_phase.specs.declared.draft.Packing.{Packing as ThePacking}
use Rattle.rg_phase.specs.declared.made.Made.{Made}
use Rattle.rg_phase.specs.declared.made.Made.TheVariants.{Packing, Drafted, Written}
use Rattle.rg_phase.proofs.Drafting.{draft_same}
use Rattle.rg_phase.proofs.Due.{altered}
use Rattle.rg_phase.proofs.Indexing.{all_built, build_next_index, none_made, sort_next}
use Rattle.rg_phase.proofs.Indexing.{with_capacity, with_copy}
use Rattle.rg_phase.proofs.Moving.{alike_both}

-- what follows from success
pub on_ok : {E : Type 0} {A B : Type 0} (r : Result Unit E) → (A → B) → OnOk r A → OnOk r B
on_ok (Ok x) f h = f h
on_ok (Err x) f h = tt

-- ---- a packing

-- a packer that has just begun
abbrev pub IsBegunFor : Task → Reloading → Type 0
IsBegunFor task p =
    p ≡ record {
      copy = task.copy;
      capacity = task.capacity;
      options = task.stage.options;
      rows = p.rows;
      count = 0;
      filled = 0;
      whole = false;
      spent = false;
    }

pub packs_begun : (task : Task) (p : Reloading) → IsBegunFor task p → IsUnfilled (numbers_in task)
    → (numbers_in task).pages ≤ (numbers_in task).copied
    → Packs (numbers_in task) task.copy task.capacity p
packs_begun task p is none copied =
    let now = altered (numbers_of task.stage) task.answer.command in
    record {
      copied = copied;
      sorted = none.sorted;
      built = none.built;
      done = none.done;
      unwritten = none.unwritten;
      filled = ap (λ (x : Reloading). x.filled) is ∙ sym none.filled;
      placed = ap (λ (x : Reloading). x.count) is ∙ sym none.reloaded;
      unspent = ap (λ (x : Reloading). x.spent) is;
      copy_is = ap (λ (x : Reloading). x.copy) is;
      capacity_is = ap (λ (x : Reloading). x.capacity) is;
      alike =
          subst (λ (o : Options). PacksAlike o (numbers_in task).options)
          (sym (ap (λ (x : Reloading). x.options) is))
          (subst (λ (v : Utility). PacksAlike task.stage.options v.options) (sym now.same)
          now.alike);
    }

-- one page more is filled
pub makes_filled : (u : Utility) (d : DrainState) (copy capacity : ℕ) (made : Made)
    (inlet : Received) (p : Reloading) (filled : Filled) (x : ThePacking) (options : Options)
    → StepMakes u d copy capacity made None inlet → Packs u copy capacity p
    → IsPackingOf options p inlet.items inlet.taken → x.options ≡ options
    → Fills p filled x.packer
    → StepMakes (after_reload filled.rows u) d copy capacity (Packing x) None inlet
makes_filled u d copy capacity made inlet p filled x options makes packs packing by fills =
    let is = fills.reloading in
    record {
      unswitched = makes.unswitched;
      copied = makes.copied;
      made_is = (
        refl,
        omega arith,
        record {
          copied = packs.copied;
          sorted = packs.sorted;
          built = packs.built;
          done = packs.done;
          unwritten = packs.unwritten;
          filled = ap (λ (q : Reloading). q.filled) is ∙ ap (λ (n : ℕ). n + 1) packs.filled;
          placed = ap (λ (q : Reloading). q.count) is
              ∙ ap (λ (n : ℕ). n + filled.rows) packs.placed;
          unspent = ap (λ (q : Reloading). q.spent) is ∙ packs.unspent;
          copy_is = ap (λ (q : Reloading). q.copy) is ∙ packs.copy_is;
          capacity_is = ap (λ (q : Reloading). q.capacity) is ∙ packs.capacity_is;
          alike = subst (λ (o : Options). PacksAlike o u.options)
              (sym (ap (λ (q : Reloading). q.options) is)) packs.alike;
        },
        record {
          options_are = ap (λ (q : Reloading). q.options) is ∙ packing.options_are ∙ sym by;
          moved = subst (λ (rows : List (Place × Row)). IsPermutation (copied_rows
              (since_begin inlet.items)) rows) (sym (ap (λ (q : Reloading). q.rows) is))
              packing.moved;
          order = subst IsInOrder (sym (ap (λ (q : Reloading). q.rows) is)) packing.order;
          none = packing.none;
        },
      );
      taken = makes.taken;
    }

-- how many rows it has
pub packed_count : (options : Options) (p : Reloading) (inlet : Received) (unloaded : ℕ)
    → length (copied_rows (since_begin inlet.items)) ≡ unloaded
    → IsPackingOf options p inlet.items inlet.taken → length p.rows ≡ unloaded
packed_count options p inlet unloaded rows packing =
    length_permutation (copied_rows (since_begin inlet.items)) p.rows packing.moved ∙ rows

-- rows are packed alike by options that pack alike
moved_alike : (a b : Options) → PacksAlike a b → (k slot free : ℕ) (rows : List (Place × Row))
    → moved_from a k slot free rows ≡ moved_from b k slot free rows
moved_alike a b same k slot free [] = refl
moved_alike a b same k slot free (homed ∷ rows) =
    let put : (pctfree freepage : ℕ) → (here next : List Moved) → List Moved =
    λ pctfree freepage here next.
    if nat_le (4064 * pctfree / 100 + area_of homed.1) free
    then moved_to (page_at freepage k) slot homed ∷ here
    else moved_to (page_at freepage (k + 1)) 0 homed ∷ next in
    ap
    (λ (n : ℕ). put n a.freepage (moved_from a k (slot + 1) (free - area_of homed.1) rows)
    (moved_from a (k + 1) 1 (4064 - area_of homed.1) rows)) same.pctfree
    ∙ ap
    (λ (n : ℕ). put b.pctfree n (moved_from a k (slot + 1) (free - area_of homed.1) rows)
    (moved_from a (k + 1) 1 (4064 - area_of homed.1) rows)) same.freepage
    ∙ ap
    (λ (xs : List Moved). put b.pctfree b.freepage xs
    (moved_from a (k + 1) 1 (4064 - area_of homed.1) rows))
    (moved_alike a b same k (slot + 1) (free - area_of homed.1) rows)
    ∙ ap
    (λ (xs : List Moved). put b.pctfree b.freepage
    (moved_from b k (slot + 1) (free - area_of homed.1) rows) xs)
    (moved_alike a b same (k + 1) 1 (4064 - area_of homed.1) rows)

pub alike_back : (a b : Options) → PacksAlike a b → PacksAlike b a
alike_back a b same = record { pctfree = sym same.pctfree; freepage = sym same.freepage }

-- the numbers of the stage, where those of the step are as they say
freepage_by : (task : Task) (options : Options) → PacksAlike options (numbers_in task).options
    → options.freepage ≡ task.stage.options.freepage
freepage_by task options alike =
    let now = altered (numbers_of task.stage) task.answer.command in
    alike.freepage ∙ ap (λ (v : Utility). v.options.freepage) now.same ∙ sym now.alike.freepage

filled_in : (task : Task) → (numbers_in task).filled ≡ task.stage.filled
filled_in task =
    ap (λ (v : Utility). v.filled) (altered (numbers_of task.stage) task.answer.command).same

-- the page is the next one of the stage
pub page_by : (task : Task) (p : Reloading) (filled : Filled) (q : Reloading)
    → Packs (numbers_in task) task.copy task.capacity p → Fills p filled q
    → length p.rows ≡ (numbers_in task).unloaded
    → IsNextPage task.stage task.capacity (Ok filled)
page_by task p filled q packs fills rows =
    let same = (altered (numbers_of task.stage) task.answer.command).same in
    let pages : p.filled ≡ task.stage.filled = packs.filled ∙ filled_in task in
    let freepage = freepage_by task p.options packs.alike in
    let left : length (rows_left p) ≡ length p.rows - p.count = length-drop p.count p.rows in (
      fills.page ∙ ap (λ (n : ℕ). page_at p.options.freepage (n + 1)) pages
          ∙ ap (λ (f : ℕ). page_at f (task.stage.filled + 1)) freepage,
      omega (
        arith,
        fills.rows,
        page_taken-low p.options (rows_left p) (omega (arith, left, fills.rest)),
      ),
      omega (
        arith,
        fills.rows,
        page_taken-high p.options (rows_left p),
        left,
        rows,
        packs.placed,
        ap (λ (v : Utility). v.unloaded) same,
        ap (λ (v : Utility). v.reloaded) same,
      ),
      subst (λ (n : ℕ). n ≤ task.capacity)
          (ap (λ (n : ℕ). page_count p.options.freepage (n + 1)) pages
          ∙ ap (λ (f : ℕ). page_count f (task.stage.filled + 1)) freepage)
          (subst (λ (n : ℕ). page_count p.options.freepage (p.filled + 1) ≤ n) packs.capacity_is
          fills.within),
    )

-- or there is none for it
pub none_by : (task : Task) (p : Reloading) (fault : ReloadFault)
    → Packs (numbers_in task) task.copy task.capacity p → LacksPageIfFull p fault
    → IsNextPage task.stage task.capacity (Err fault)
none_by task p (reloads.NoSpace pages) packs lacks =
    subst (λ (n : ℕ). task.capacity < n)
    (ap (λ (n : ℕ). page_count p.options.freepage (n + 1)) (packs.filled ∙ filled_in task)
    ∙ ap (λ (f : ℕ). page_count f (task.stage.filled + 1))
    (freepage_by task p.options packs.alike))
    (subst (λ (n : ℕ). n < page_count p.options.freepage (p.filled + 1)) packs.capacity_is
    lacks.above)
none_by task p reloads.NoMemory packs lacks = tt

-- the page has the rows that it has by the options of the stage
pub filled_by : (task : Task) (p : Reloading) (filled : Filled) (q : Reloading)
    → Packs (numbers_in task) task.copy task.capacity p → Fills p filled q
    → filled.rows ≡ length (slots_on filled.page (packed_rows task.stage.options q.rows))
filled_by task p filled q packs fills =
    let now = altered (numbers_of task.stage) task.answer.command in
    let here : PacksAlike task.stage.options (numbers_in task).options =
    subst (λ (v : Utility). PacksAlike task.stage.options v.options) (sym now.same) now.alike in
    let same = alike_both p.options (numbers_in task).options task.stage.options packs.alike
    (alike_back task.stage.options (numbers_in task).options here) in
    sym fills.on_page
    ∙ ap (λ (xs : List Moved). length (slots_on filled.page xs))
    (moved_alike p.options task.stage.options same 0 0 0 p.rows)
    ∙ ap
    (λ (rows : List (Place × Row)). length
    (slots_on filled.page (packed_rows task.stage.options rows)))
    (sym (ap (λ (x : Reloading). x.rows) fills.reloading))

-- ---- a draft

-- it is loaded
pub drafts_loaded : (u : Utility) (copy capacity : ℕ) (options : Options) (p : Reloading)
    (s : Shade) → Packs u copy capacity p → u.unloaded ≤ u.reloaded
    → p.options ≡ options
    → s.copy ≡ p.copy → s.capacity ≡ p.capacity → ((which : Which) → stage_in which s ≡ Unsorted)
    → Drafts u copy capacity options s
drafts_loaded u copy capacity options p s packs reloaded by of_copy within unsorted =
    record {
      copied = packs.copied;
      reloaded = reloaded;
      first = omega (arith, packs.sorted, packs.built);
      stages = λ which.
          unsorted which ∙ none_made which
          ∙ ap (λ (n : ℕ). stage_by n 0 which) (sym packs.sorted)
          ∙ ap (λ (n : ℕ). stage_by u.sorted n which) (sym packs.built);
      unwritten = packs.unwritten;
      copy_is = of_copy ∙ packs.copy_is;
      capacity_is = within ∙ packs.capacity_is;
      alike = subst (λ (o : Options). PacksAlike o u.options) by packs.alike;
    }

-- the draft of a packing, if there was memory
pub loaded_drafts : (u : Utility) (copy capacity : ℕ) (x : ThePacking)
    (r : Result Draft NoMemory) → Packs u copy capacity x.packer → u.unloaded ≤ u.reloaded
    → x.packer.options ≡ x.options
    → IfOk r (λ d. d.options ≡ x.options) → IfOk r (λ d. d.shadow.copy ≡ x.packer.copy)
    → IfOk r (λ d. d.shadow.capacity ≡ x.packer.capacity)
    → IfOk r (λ d. (which : Which) → stage_in which d.shadow ≡ Unsorted)
    → IfOk r (λ d. Drafts u copy capacity d.options d.shadow)
loaded_drafts u copy capacity x (Ok d) packs reloaded by options of_copy within unsorted =
    drafts_loaded u copy capacity d.options x.packer d.shadow packs reloaded
    (by ∙ sym options) of_copy within unsorted
loaded_drafts u copy capacity x (Err fault) packs reloaded by options of_copy within unsorted = tt

module _ (u : Utility) (d : DrainState) (copy capacity : ℕ) where
  -- one list more is sorted
  pub makes_sorted : (made : Made) (inlet : Received) (o : Options) (s : Shade) (which : Which)
      (x : Draft) → StepMakes u d copy capacity made None inlet → IsDueAt steps.Sort u d
      → which ≡ nth_which u.sorted → Drafts u copy capacity o s
      → IsDraftOf o s inlet.items inlet.taken → SameRows s x.shadow → x.options ≡ o
      → x.shadow ≡ with_stage which Sorted s
      → StepMakes (after_sort u) d copy capacity (Drafted x) None inlet
  makes_sorted made inlet o s which x makes due here drafts draft same by is =
      let next : x.shadow ≡ with_stage (nth_which u.sorted) Sorted s =
      is ∙ ap (λ (w : Which). with_stage w Sorted s) here in
      record {
        unswitched = makes.unswitched;
        copied = makes.copied;
        made_is = (
          refl,
          omega arith,
          record {
            copied = drafts.copied;
            reloaded = drafts.reloaded;
            first = omega (arith, drafts.first);
            stages = λ w.
                ap (stage_in w) next
                ∙ sort_next u.sorted u.built s drafts.first due.2 drafts.stages w;
            unwritten = drafts.unwritten;
            copy_is = ap (λ (y : Shade). y.copy) is ∙ with_copy which Sorted s ∙ drafts.copy_is;
            capacity_is =
                ap (λ (y : Shade). y.capacity) is ∙ with_capacity which Sorted s
                ∙ drafts.capacity_is;
            alike = subst (λ (q : Options). PacksAlike q u.options) (sym by) drafts.alike;
          },
          subst (λ (q : Options). IsDraftOf q x.shadow inlet.items inlet.taken) (sym by)
              (draft_same o s x.shadow inlet.items inlet.taken same draft),
        );
        taken = makes.taken;
      }

  -- one index more is built
  pub makes_built : (old x : Draft) (inlet : Received) (which : Which)
      → StepMakes u d copy capacity (Drafted old) None inlet → IsDueAt steps.Build u d
      → which ≡ nth_which u.built → SameRows old.shadow x.shadow → x.options ≡ old.options
      → x.shadow ≡ with_stage which Built old.shadow
      → StepMakes (after_build u) d copy capacity (Drafted x) None inlet
  makes_built old x inlet which makes due here same by is =
      let drafts = makes.made_is.2 in
      let s = old.shadow in
      let next : x.shadow ≡ with_stage (nth_which u.built) Built s =
      is ∙ ap (λ (w : Which). with_stage w Built s) here in
      record {
        unswitched = makes.unswitched;
        copied = makes.copied;
        made_is = (
          refl,
          makes.made_is.1,
          record {
            copied = drafts.copied;
            reloaded = drafts.reloaded;
            first = omega (arith, due.2, due.3);
            stages = λ w.
                ap (stage_in w) next
                ∙ build_next_index u.built u.sorted s due.3 due.2 drafts.stages w;
            unwritten = drafts.unwritten;
            copy_is = ap (λ (y : Shade). y.copy) is ∙ with_copy which Built s ∙ drafts.copy_is;
            capacity_is =
                ap (λ (y : Shade). y.capacity) is ∙ with_capacity which Built s
                ∙ drafts.capacity_is;
            alike = subst (λ (q : Options). PacksAlike q u.options) (sym by) drafts.alike;
          },
          subst (λ (q : Options). IsDraftOf q x.shadow inlet.items inlet.taken) (sym by)
              (draft_same old.options s x.shadow inlet.items inlet.taken same makes.made_is.3),
        );
        taken = makes.taken;
      }

  -- changes are taken
  pub makes_taken : (old x : Draft) (inlet later : Received) (count : ℕ)
      → StepMakes u d copy capacity (Drafted old) None inlet → IsIndexed u
      → x.options ≡ old.options → x.shadow.copy ≡ old.shadow.copy
      → x.shadow.capacity ≡ old.shadow.capacity
      → ((which : Which) → stage_in which old.shadow ≡ Built → stage_in which x.shadow ≡ Built)
      → IsDraftOf x.options x.shadow later.items later.taken
      → later.taken ≡ inlet.taken + count
      → StepMakes (after_take count u) d copy capacity (Drafted x) None later
  makes_taken old x inlet later count makes indexed by of_copy within built draft taken =
      let drafts = makes.made_is.2 in
      record {
        unswitched = makes.unswitched;
        copied = makes.copied;
        made_is = (
          refl,
          makes.made_is.1,
          record {
            copied = drafts.copied;
            reloaded = drafts.reloaded;
            first = drafts.first;
            stages = λ w.
                built w (drafts.stages w ∙ all_built u.sorted u.built indexed.built w)
                ∙ sym (all_built u.sorted u.built indexed.built w);
            unwritten = drafts.unwritten;
            copy_is = of_copy ∙ drafts.copy_is;
            capacity_is = within ∙ drafts.capacity_is;
            alike = subst (λ (q : Options). PacksAlike q u.options) (sym by) drafts.alike;
          },
          draft,
        );
        taken = taken ∙ ap (λ (n : ℕ). n + count) makes.taken;
      }

  -- the new copy that was written is taken back
  pub makes_back : (options : Options) (kept : Option PreparedSeen) (x : Draft)
      (inlet : Received) → IsIndexed u
      → StepMakes u d copy capacity (Written options) kept inlet
      → shade_kept kept ≡ Some x.shadow → x.options ≡ options → x.shadow.copy ≡ copy
      → x.shadow.capacity ≡ capacity → ((which : Which) → stage_in which x.shadow ≡ Built)
      → StepMakes (after_back u) d copy capacity (Drafted x) None inlet
  makes_back options None x inlet indexed makes is by of_copy within built = absurd (cc (is))
  makes_back options (Some p) x inlet indexed makes is by of_copy within built =
      let keeps = makes.made_is.0 in
      let same : p.shade ≡ x.shadow = cc (is) in
      record {
        unswitched = makes.unswitched;
        copied = makes.copied;
        made_is = (
          refl,
          omega (arith, indexed.sorted),
          record {
            copied = keeps.copied;
            reloaded = keeps.reloaded;
            first = keeps.first;
            stages = λ w. built w ∙ sym (all_built u.sorted u.built indexed.built w);
            unwritten = refl;
            copy_is = of_copy;
            capacity_is = within;
            alike = subst (λ (q : Options). PacksAlike q u.options) (sym by) keeps.alike;
          },
          subst (λ (q : Options). IsDraftOf q x.shadow inlet.items inlet.taken) (sym by)
              (subst (λ (y : Shade). IsDraftOf options y inlet.items inlet.taken) same
              makes.made_is.1),
        );
        taken = makes.taken;
      }

  -- the draft is written
  pub makes_written : (x : Draft) (p : PreparedSeen) (inlet : Received) (pages : ℕ)
      (e : DrainState) → IsIndexed u → u.last ≡ true
      → StepMakes u d copy capacity (Drafted x) None inlet
      → IsDraftOf x.options p.shade inlet.items inlet.taken → length p.shade.pages ≡ pages
      → IsForAll e
      → StepMakes (after_write pages u) e copy capacity (Written x.options) (Some p) inlet
  makes_written x p inlet pages e indexed last makes draft count all = record {
    unswitched = makes.unswitched;
    copied = makes.copied;
    made_is = (
      record {
        copied = indexed.copied;
        reloaded = indexed.reloaded;
        sorted = indexed.sorted;
        built = indexed.built;
        first = makes.made_is.2.first;
        last = last;
        written = refl;
        for_all = all;
        pages = count;
        alike = makes.made_is.2.alike;
      },
      draft,
    );
    taken = makes.taken;
  }
