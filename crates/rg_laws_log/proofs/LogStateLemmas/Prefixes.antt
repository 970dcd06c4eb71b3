-- Every prefix of a lawful log: the invariant, the stored rows, and what an opening meets.
use Rattle.std.proofs.lemmas.List.{append-nil}
use Rattle.std.proofs.Common.{◌≡◌, ◌||◌, ◌==◌, ℕ, Bool, true, false, not, List, [], ◌∷◌}
use Rattle.std.proofs.Common.{Option, Some, None, refl, sym, ◌∙◌, ap, subst, if◌then◌else◌, arith}
use Rattle.rg_base.specs.declared.place.Place.{Place}
use Rattle.rg_base.specs.declared.row.Row.{Row as TableRow}
use Rattle.rg_home.specs.Slot.{Slot, Free}
use Rattle.rg_base.specs.Place.{same_place}
use Rattle.rg_home.specs.Rows.{row_at}
use Rattle.rg_home.specs.Pages.{slot_of}
use Rattle.rg_laws_pages.specs.UndoRoom.Ready.{only}
use Rattle.rg_laws_pages.specs.UndoRoom.Dead.{DeadNamed}
use Rattle.rg_laws_pages.specs.UndoRoom.Needed.{NotNone, InsertsAreThere, NeededInTurn}
use Rattle.rg_laws_pages.proofs.UndoRoomLemmas.Begin.{proper_empty, ready_alone}
use Rattle.rg_laws_pages.proofs.UndoRoomLemmas.Needed.{all_in_turn}
use Rattle.rg_laws_pages.proofs.UndoRoomLemmas.Ready.{can_only}
use Rattle.rg_laws_log.specs.LogState.Write.{Write, at_home, at_key, Either, Back, gone_back}
use Rattle.rg_laws_log.specs.LogState.Write.{kept_of, written_of, NotBoth, AllOfKey}
use Rattle.rg_home.specs.Table.{IsTable}
use Rattle.rg_laws_log.specs.LogState.Act.{Act, LogState, state, nothing}
use Rattle.rg_home.specs.Owners.{OwnerBelow}
use Rattle.rg_laws_log.specs.LogState.Lawful.{Runs}
use Rattle.rg_laws_log.specs.LogState.Consistent.{base_of, stored_of, IsConsistent, IsClean}
use Rattle.rg_laws_log.specs.LogState.Stored.{has_commit, last_of, stored_at, MayCount, AgreesWith}
use Rattle.rg_laws_log.proofs.LogStateLemmas.Hits.{back_kept, key_kept}
use Rattle.rg_laws_log.proofs.LogStateLemmas.Tables.{table_back, gone_taken}
use Rattle.rg_home.proofs.Tables.{table_same}
use Rattle.rg_home.proofs.NoPages.{row_none, slot_none}
use Rattle.rg_laws_log.proofs.LogStateLemmas.Maps.{map_only}
use Rattle.rg_laws_log.proofs.LogStateLemmas.Keeps.{keeps}
use Rattle.rg_laws_log.proofs.LogStateLemmas.Agrees.{agrees_keeps, kept_all}
use Rattle.rg_base.proofs.SamePlace.{same_place-refl}

-- the empty log

named_none : (live : List ℕ) (at : Place → Slot) (p : Place) (s : Slot) → s ≡ Free
    → DeadNamed live at p s
named_none live at p s e = subst (DeadNamed live at p) (sym e) tt

pub nothing_consistent : (limit : ℕ) → IsConsistent limit nothing
nothing_consistent limit = record {
  few = omega arith;
  ready = ready_alone [] [] proper_empty;
  fresh = λ u l. absurd (cc (l));
  rolled = λ u l. absurd (cc (l));
  table = record {
    there = λ p r e. absurd (cc (e, row_none p));
    placed = λ k r e. absurd (cc (e));
    once = λ p q r s e f same. absurd (cc (e, row_none p));
  };
  homes = λ p. tt;
  keys = λ k. tt;
  one_home = λ p. tt;
  one_key = λ k. tt;
  of_key = tt;
}

pub nothing_clean : IsClean nothing
nothing_clean = record {
  names = λ p. named_none [] (slot_of []) p (slot_of [] p) (slot_none p);
  below = λ p. subst (OwnerBelow 0) (sym (slot_none p)) tt;
}

pub nothing_agrees : AgreesWith nothing [] []
nothing_agrees = record { ended = λ u e. absurd (cc (e)); rows = λ f may k. refl }

pub record PrefixHolds (limit : ℕ) (acts : List Act) : Type 0 where
  pub consistent : IsConsistent limit (state nothing acts)
  pub agrees : AgreesWith nothing [] acts
  pub clean : IsClean (state nothing acts)

both : (limit : ℕ) (acts : List Act) → Runs limit nothing acts → PrefixHolds limit acts
both limit [] runs =
    record { consistent = nothing_consistent limit; agrees = nothing_agrees; clean = nothing_clean }
both limit (r ∷ acts) runs = go (both limit acts runs.1)
  where
    go : PrefixHolds limit acts → PrefixHolds limit (r ∷ acts)
    go b = record {
      consistent = (keeps limit (state nothing acts) b.consistent r runs.0).1;
      agrees = agrees_keeps limit nothing [] acts b.consistent b.agrees r runs.0;
      clean = (keeps limit (state nothing acts) b.consistent r runs.0).2 b.clean;
    }

pub prefix_consistent : (limit : ℕ) (acts : List Act) → Runs limit nothing acts
    → IsConsistent limit (state nothing acts)
prefix_consistent limit acts runs = (both limit acts runs).consistent

-- the stored rows of the prefix are those that are there once all open units are undone
pub prefix_stored : (limit : ℕ) (acts : List Act) → Runs limit nothing acts → (k : ℕ)
    → stored_at acts k ≡ stored_of (state nothing acts) k
prefix_stored limit acts runs k =
    sym (ap (λ (xs : List Act). last_of (λ t. has_commit t xs) k xs) (append-nil acts))
    ∙ (both limit acts runs).agrees.rows (λ u. false) (λ u e. absurd (cc (e))) k
    ∙ ap (λ (ws : List Write). gone_back (at_key k) ws ((state nothing acts).now k))
    (kept_all (state nothing acts).writes)

-- the rows by place and the rows by key, once all is taken back
pub stored_table : (limit : ℕ) (s : LogState) → IsConsistent limit s
    → IsTable (base_of s) (stored_of s)
stored_table limit s g =
    table_same _ (base_of s) _ (stored_of s)
    (λ p. sym (gone_taken p s.writes (row_at (slot_of s.pages) p))) (λ k. refl)
    (table_back s.writes (row_at (slot_of s.pages)) s.now g.table g.homes g.keys g.of_key)

-- what a unit's undo needs is there, each write at its turn

pub inserts : (ws : List Write) (rows : Place → Option TableRow)
    → ((p : Place) → Back (at_home p) ws (rows p)) → AllOfKey ws
    → InsertsAreThere rows (written_of ws)
inserts [] rows h k = tt
inserts (w ∷ ws) rows h k = (
  first (w.written.before) refl,
  inserts ws _ (λ p. later p (same_place p w.written.home) refl) k.1,
)
  where
    after : rows w.written.home ≡ w.after
    after =
        (subst
        (λ (b : Bool). Either b
        ((rows w.written.home ≡ w.after) × Back (at_home w.written.home) ws w.written.before)
        (Back (at_home w.written.home) ws (rows w.written.home))) (same_place-refl w.written.home)
        (h w.written.home)).0

    some : (x y : Option TableRow) → NotBoth x y → NotNone x y
    some None None n = absurd n
    some None (Some y) n = λ e. cc (e)
    some (Some x) y n = tt

    first : (b : Option TableRow) → w.written.before ≡ b
        → NotNone w.written.before (rows w.written.home)
    first b e =
        subst (NotNone w.written.before) (sym after) (some w.written.before w.after k.0.some)

    later : (p : Place) (b : Bool) → same_place p w.written.home ≡ b
        → Back (at_home p) ws (if same_place p w.written.home then w.written.before else rows p)
    later p true e =
        subst (λ (b : Bool). Back (at_home p) ws (if b then w.written.before else rows p)) (sym e)
        (subst
        (λ (b : Bool). Either b ((rows p ≡ w.after) × Back (at_home p) ws w.written.before)
        (Back (at_home p) ws (rows p))) e (h p)).1
    later p false e =
        subst (λ (b : Bool). Back (at_home p) ws (if b then w.written.before else rows p)) (sym e)
        (subst
        (λ (b : Bool). Either b ((rows p ≡ w.after) × Back (at_home p) ws w.written.before)
        (Back (at_home p) ws (rows p))) e (h p))

-- of any unit, in any state: its writes that are not yet undone can be undone, the latest first
pub needed : (limit : ℕ) (s : LogState) → IsConsistent limit s → (t : ℕ)
    → NeededInTurn s.pages (only t (written_of s.writes))
needed limit s g t =
    all_in_turn (only t (written_of s.writes)) s.pages g.ready.proper
    (can_only s.live (base_of s) t (slot_of s.pages) (written_of s.writes) g.ready.can)
    (subst (InsertsAreThere (row_at (slot_of s.pages))) (map_only t s.writes)
    (inserts (kept_of (λ u. u == t) s.writes) (row_at (slot_of s.pages))
    (λ p. back_kept (λ u. u == t) (at_home p) s.writes (row_at (slot_of s.pages) p) (g.one_home p)
    (g.homes p)) (key_kept (λ u. u == t) s.writes g.of_key)))

pub prefixes_hold : (limit : ℕ) (acts : List Act) → Runs limit nothing acts
    → IsConsistent limit (state nothing acts) × IsClean (state nothing acts)
    × IsTable (base_of (state nothing acts)) (stored_at acts)
prefixes_hold limit acts runs =
    let g = prefix_consistent limit acts runs in (
      g,
      (both limit acts runs).clean,
      table_same (base_of (state nothing acts)) (base_of (state nothing acts))
          (stored_of (state nothing acts)) (stored_at acts) (λ p. refl)
          (prefix_stored limit acts runs) (stored_table limit (state nothing acts) g),
    )

pub commits_tell : (limit : ℕ) (acts : List Act) → Runs limit nothing acts → (f : ℕ → Bool)
    → ((u : ℕ) → f u ≡ true → MayCount (state nothing acts) u) → (k : ℕ)
    → last_of (λ u. f u || has_commit u acts) k acts
    ≡ gone_back (at_key k) (kept_of (λ u. not (f u)) (state nothing acts).writes)
    ((state nothing acts).now k)
commits_tell limit acts runs f may k =
    sym (ap (λ (xs : List Act). last_of (λ u. f u || has_commit u xs) k xs) (append-nil acts))
    ∙ (both limit acts runs).agrees.rows f may k
