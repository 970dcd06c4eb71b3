-- What a utility has made of the new copy, of the items that it has received.
--
-- 1. The numbers of the utility say what is made. Nothing is made before the first page is filled,
--    and nothing is left after the switch. A packing is made until the first list is sorted, and
--    then a draft, until it is written.
-- 2. More was sent since than was received: changes alone, unless nothing is made. Once all is
--    received, as many changes are taken as the utility counts.
-- 3. The desk keeps the new copy that is written. Else it keeps none.
-- 4. It is packed by PCTFREE and FREEPAGE of the start, which no ALTER replaces.
use Rattle.std.specs.Prelude.{◌≡◌, ◌⊎◌, ◌≤◌, ◌++◌, ◌+◌, ◌*◌, ◌/◌, ℕ, Bool, true, false, List, []}
use Rattle.std.specs.Prelude.{◌∷◌}
use Rattle.std.specs.Prelude.{Option, Some, None, IfSome, length, nat_lt, if◌then◌else◌}
use Rattle.rg_base.specs.Copies.{other_of}
use Rattle.rg_base.specs.declared.options.DrainState.{DrainState}
use Rattle.rg_base.specs.declared.options.Options.{Options}
use Rattle.rg_base.specs.declared.which.Which.{Which}
use Rattle.rg_base.specs.declared.which.Which.TheVariants.{Key, Clus, Cat}
use Rattle.rg_desk.specs.Desk.{DeskState, FeedIs}
use Rattle.rg_desk.specs.declared.task.Task.{Task}
use Rattle.rg_engine.specs.Prepared.{PreparedSeen}
use Rattle.rg_feed.specs.Ends.{Received, still_taken}
use Rattle.rg_feed.specs.declared.fold.item.Item.{Item}
use Rattle.rg_feed.specs.declared.fold.item.Stage.{Stage}
use Rattle.rg_image.specs.Rules.{copy_capacity}
use Rattle.rg_laws_utility.specs.TraceStage.Tending.{IsForAll}
use Rattle.rg_model.specs.State.{Utility}
use Rattle.rg_model.specs.Turn.{Turn, Runs, Switches, Stops, Falls, alter, turn_of}
use Rattle.rg_outside.specs.Volume.{VolumeSeen}
use Rattle.rg_phase.specs.Drafted.{IsDraftOf, IsPackingOf}
use Rattle.rg_phase.specs.declared.made.Made.{Made}
use Rattle.rg_phase.specs.declared.made.Made.TheVariants.{Nothing, Packing, Drafted, Written}
use Rattle.rg_reload.specs.Moved.{packed_rows}
use Rattle.rg_reload.specs.Pages.{slots_on}
use Rattle.rg_reload.specs.Reloading.{Reloading}
use Rattle.rg_rules.specs.Stage.NumbersOf.{numbers_of}
use Rattle.rg_engine.specs.ChangeFeed.Sending.{AddsChanges}
use Rattle.rg_shadow.specs.Shade.{Shade, stage_in}
use Rattle.rg_shadow.specs.declared.drafts.IndexStage.{IndexStage}
use Rattle.rg_shadow.specs.declared.drafts.IndexStage.TheVariants.{Unsorted, Sorted, Built}
use Rattle.rg_stmt.specs.declared.event.Event.{Event}
use Rattle.rg_stmt.specs.declared.event.Event.TheVariants as events

-- ---- by the numbers

-- pages are packed alike by these options
pub record PacksAlike (a b : Options) : Type 0 where
  pub pctfree : a.pctfree ≡ b.pctfree
  pub freepage : a.freepage ≡ b.freepage

-- the order of the indexes
abbrev pub index_number : Which → ℕ
index_number Key = 0
index_number Clus = 1
index_number Cat = 2

-- how far an index is made, where so many lists are sorted and so many indexes built
abbrev pub stage_by : (sorted built : ℕ) → Which → IndexStage
stage_by sorted built which =
    if nat_lt (index_number which) built then Built
    else (if nat_lt (index_number which) sorted then Sorted else Unsorted)

-- no page is filled, no list sorted, and no change taken
pub record IsUnfilled (u : Utility) : Type 0 where
  pub filled : u.filled ≡ 0
  pub reloaded : u.reloaded ≡ 0
  pub sorted : u.sorted ≡ 0
  pub built : u.built ≡ 0
  pub done : u.done ≡ 0
  pub unwritten : u.written ≡ false

-- A packer has filled as many pages, and placed as many rows, as these numbers say, by options that
-- pack alike. It is that of this copy, of so many pages at most.
pub record Packs (u : Utility) (copy capacity : ℕ) (p : Reloading) : Type 0 where
  pub copied : u.pages ≤ u.copied
  pub sorted : u.sorted ≡ 0
  pub built : u.built ≡ 0
  pub done : u.done ≡ 0
  pub unwritten : u.written ≡ false
  pub filled : p.filled ≡ u.filled
  pub placed : p.count ≡ u.reloaded
  pub unspent : p.spent ≡ false
  pub copy_is : p.copy ≡ copy
  pub capacity_is : p.capacity ≡ capacity
  pub alike : PacksAlike p.options u.options

-- A draft of a new copy has all rows. The lists are sorted, and the indexes built, that these
-- numbers say, and it is packed by options that pack alike. It is that of this copy, of so many
-- pages at most. It is not written.
pub record Drafts (u : Utility) (copy capacity : ℕ) (options : Options) (s : Shade) : Type 0 where
  pub copied : u.pages ≤ u.copied
  pub reloaded : u.unloaded ≤ u.reloaded
  pub first : u.built ≤ u.sorted
  pub stages : (which : Which) → stage_in which s ≡ stage_by u.sorted u.built which
  pub unwritten : u.written ≡ false
  pub copy_is : s.copy ≡ copy
  pub capacity_is : s.capacity ≡ capacity
  pub alike : PacksAlike options u.options

-- The new copy that the desk keeps was written, of as many pages as these numbers say, after the
-- last changes were taken, and was packed by options that pack alike. Only the drain for ALL is
-- asked or granted.
pub record Keeps (u : Utility) (drain : DrainState) (options : Options) (p : PreparedSeen) : Type 0
  where
    pub copied : u.pages ≤ u.copied
    pub reloaded : u.unloaded ≤ u.reloaded
    pub sorted : 3 ≤ u.sorted
    pub built : 3 ≤ u.built
    pub first : u.built ≤ u.sorted
    pub last : u.last ≡ true
    pub written : u.written ≡ true
    pub for_all : IsForAll drain
    pub pages : length p.shade.pages ≡ u.shadow
    pub alike : PacksAlike options u.options

-- ---- what is made

-- the new copy that the desk keeps is this one
abbrev pub KeepsOf :
    Utility → DrainState → Options → Option PreparedSeen → (items : List Item) → (taken : ℕ)
    → Type 0
KeepsOf u drain options None items taken = ⊥
KeepsOf u drain options (Some p) items taken =
    Keeps u drain options p × IsDraftOf options p.shade items taken

-- This is made at these numbers, under this drain, of the items received. It is to be this copy, of
-- so many pages at most. The desk keeps this new copy.
abbrev pub HasMade :
    Utility → DrainState → (copy capacity : ℕ) → Made → Option PreparedSeen → Received → Type 0
HasMade u drain copy capacity Nothing kept inlet = (kept ≡ None) × IsUnfilled u
HasMade u drain copy capacity (Packing p) kept inlet =
    (kept ≡ None) × (1 ≤ u.filled) × Packs u copy capacity p.packer
    × IsPackingOf p.options p.packer inlet.items inlet.taken
HasMade u drain copy capacity (Drafted d) kept inlet =
    (kept ≡ None) × (1 ≤ u.sorted) × Drafts u copy capacity d.options d.shadow
    × IsDraftOf d.options d.shadow inlet.items inlet.taken
HasMade u drain copy capacity (Written options) kept inlet =
    KeepsOf u drain options kept inlet.items inlet.taken

-- what was sent since is changes alone, unless nothing is made
abbrev pub IsAddedTo : Made → (items feed : List Item) → Type 0
IsAddedTo Nothing items feed = Unit {0}
IsAddedTo made items feed = AddsChanges items feed

-- more was sent since these items were received, or nothing was
abbrev pub IsBehind : (items feed : List Item) → Type 0
IsBehind items feed = (more : List Item) × (feed ≡ items ++ more)

-- once all is received that was sent, so many changes are taken
pub record WillHave (inlet : Received) (feed : List Item) (done : ℕ) : Type 0 where
  pub more : List Item
  pub items : feed ≡ inlet.items ++ more
  pub taken : still_taken more inlet.taken ≡ done

-- a utility that has not switched has made this
pub record MakesCopy (s : Stage) (copy capacity : ℕ) (made : Made) (kept : Option PreparedSeen)
    (inlet : Received) (feed : List Item) : Type 0 where
  pub unswitched : s.switched ≡ false
  pub copied : s.copied ≤ s.pages
  pub made_is : HasMade (numbers_of s) s.drain copy capacity made kept inlet
  pub added : IsAddedTo made inlet.items feed
  pub heard : WillHave inlet feed s.done

-- the copies are switched, and nothing is left of what was made
pub record HasSwitched (s : Stage) (made : Made) (kept : Option PreparedSeen)
    (items feed : List Item) : Type 0 where
  pub switched : s.switched ≡ true
  pub made_is : made ≡ Nothing
  pub none : kept ≡ None
  pub behind : IsBehind items feed

-- This is made at this stage, if a utility runs, where the desk keeps this new copy and has sent
-- these items. It is to be this copy, of so many pages at most.
abbrev pub IsMadeAt :
    Option Stage → (copy capacity : ℕ) → Made → Option PreparedSeen → Received → List Item
    → Type 0
IsMadeAt None copy capacity made kept inlet feed = (kept ≡ None) × IsBehind inlet.items feed
IsMadeAt (Some s) copy capacity made kept inlet feed =
    MakesCopy s copy capacity made kept inlet feed ⊎ HasSwitched s made kept inlet.items feed

-- so it is at the stage of a desk, of its other copy
abbrev pub Works :
    {V O : Type 0} → (look : V → VolumeSeen) → Made → Received → DeskState V O → Type 0
Works look made inlet desk =
    IsMadeAt desk.stage (other_of desk.copy)
    (copy_capacity (look desk.volume).capacities (other_of desk.copy)) made desk.shadow inlet
    desk.feed

-- all that the desk has sent is received
pub record Hears {V O : Type 0} (desk : DeskState V O) (inlet : Received) : Type 0 where
  pub items : inlet.items ≡ desk.feed
  pub feed : FeedIs desk

-- ---- in a step

-- the numbers that a step goes by: those of the stage, with the operator's ALTER
abbrev pub numbers_in : Task → Utility
numbers_in task = alter (numbers_of task.stage) task.answer.command

-- this is made for a step, where all is received that was sent
pub record StepMakes (u : Utility) (drain : DrainState) (copy capacity : ℕ) (made : Made)
    (kept : Option PreparedSeen) (inlet : Received) : Type 0 where
  pub unswitched : u.switched ≡ false
  pub copied : u.copied ≤ u.pages
  pub made_is : HasMade u drain copy capacity made kept inlet
  pub taken : inlet.taken ≡ u.done

-- the same at the numbers that the step of a task goes by
abbrev pub TaskMakes : Task → Made → Option PreparedSeen → Received → Type 0
TaskMakes task made kept inlet =
    StepMakes (numbers_in task) task.stage.drain task.copy task.capacity made kept inlet

-- the numbers that a step leaves: a page filled, a list sorted, an index built, changes taken, the
-- new copy written, or taken back
abbrev pub after_reload : (rows : ℕ) → Utility → Utility
after_reload rows u = record u { filled = u.filled + 1; reloaded = u.reloaded + rows }

abbrev pub after_sort : Utility → Utility
after_sort u = record u { sorted = u.sorted + 1 }

abbrev pub after_build : Utility → Utility
after_build u = record u { built = u.built + 1 }

abbrev pub after_take : (count : ℕ) → Utility → Utility
after_take count u = record u { done = u.done + count }

abbrev pub after_write : (pages : ℕ) → Utility → Utility
after_write pages u = record u { written = true; shadow = pages }

abbrev pub after_back : Utility → Utility
after_back u = record u { last = false; written = false }

-- the same by the numbers that a turn leaves, if the utility goes on and has not switched
abbrev pub TurnMakes :
    Turn → (copy capacity : ℕ) → Made → Option PreparedSeen → Received → Type 0
TurnMakes (Runs u drain) copy capacity made kept inlet =
    StepMakes u drain copy capacity made kept inlet
TurnMakes (Switches to sides u) copy capacity made kept inlet = Unit {0}
TurnMakes Stops copy capacity made kept inlet = Unit {0}
TurnMakes Falls copy capacity made kept inlet = Unit {0}

-- the same by those that an event leaves
abbrev pub EventMakes : Task → Event → Made → Option PreparedSeen → Received → Type 0
EventMakes task event made kept inlet =
    (turn : Turn)
    → turn_of task.changes task.holder task.answer (numbers_of task.stage) task.stage.drain event
    ≡ Some turn
    → TurnMakes turn task.copy task.capacity made kept inlet

-- ---- what an event tells of it

-- a page is filled with so many rows: all that it has once every row is placed by these options
abbrev pub IsFilled : Options → Made → (page rows : ℕ) → Type 0
IsFilled options (Packing p) page rows =
    rows ≡ length (slots_on page (packed_rows options p.packer.rows))
IsFilled options made page rows = ⊥

-- the list of an index of the new copy is sorted, or the index is built
abbrev pub IsAt : Which → IndexStage → Made → Type 0
IsAt which at (Drafted d) = stage_in which d.shadow ≡ at
IsAt which at made = ⊥

-- The event tells what is made: a page of so many rows, by the utility's options, a list that is
-- sorted, an index that is built, or as many changes, beyond those that the stage counts.
abbrev pub IsAsMade : Made → Option Stage → (taken : ℕ) → Event → Type 0
IsAsMade made stage taken (events.Reload page rows) =
    IfSome stage (λ s. IsFilled s.options made page rows)
IsAsMade made stage taken (events.Sort which) = IsAt which Sorted made
IsAsMade made stage taken (events.Build which) = IsAt which Built made
IsAsMade made stage taken (events.Log iteration took left verdict) =
    IfSome stage (λ s. taken ≡ s.done + took)
IsAsMade made stage taken (events.Last took left) = IfSome stage (λ s. taken ≡ s.done + took)
IsAsMade made stage taken event = Unit {0}
