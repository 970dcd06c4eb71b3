-- What an opening appends: the open units of any prefix are undone, in any order of units, and what
-- is left are the stored rows of the prefix.
use Rattle.std.proofs.Common.{◌≡◌, ◌==◌, ℕ, ◌≤◌, zero, suc, Bool, true, false, not, List, [], ◌∷◌}
use Rattle.std.proofs.Common.{◌++◌, length, Option, Some, None, refl, sym, ◌∙◌, ap, subst}
use Rattle.std.proofs.Common.{if◌then◌else◌, arith, append_assoc}
use Rattle.std.proofs.lemmas.Bool.{eqb-true, eqb-false}
use Rattle.rg_base.specs.declared.place.Place.{Place}
use Rattle.rg_base.specs.declared.row.Row.{Row as TableRow}
use Rattle.rg_home.specs.Slot.{Slot}
use Rattle.rg_home.specs.Rows.{row_at}
use Rattle.rg_home.specs.Pages.{slot_of}
use Rattle.rg_home.specs.Able.{IsLive, CanUndo, AllUndoable}
use Rattle.rg_home.specs.Undo.{planned_undo}
use Rattle.rg_laws_pages.specs.UndoRoom.Needed.{NeededInTurn}
use Rattle.rg_laws_pages.proofs.UndoRoomLemmas.Needed.{all_in_turn}
use Rattle.rg_laws_pages.proofs.UndoRoomLemmas.Next.{undoable_any}
use Rattle.rg_laws_log.specs.LogState.Write.{Write, at_home, at_key, Either, Back, gone_back, HitBy}
use Rattle.rg_laws_log.specs.LogState.Write.{OneOwner, latest_if, latest_of, less_if, less_of}
use Rattle.rg_laws_log.specs.LogState.Write.{kept_if, kept_of, written_of, AllOfKey}
use Rattle.rg_home.specs.Table.{IsTable}
use Rattle.rg_laws_log.specs.LogState.Act.{Act, LogState, others, not_of, state, Purge, Change}
use Rattle.rg_laws_log.specs.LogState.Act.{Undo, Commit, RollBack, Switch, nothing}
use Rattle.rg_laws_log.specs.LogState.Lawful.{Runs}
use Rattle.rg_laws_log.specs.LogState.Consistent.{IsConsistent}
use Rattle.rg_laws_log.specs.LogState.Stored.{has_commit, last_of, stored_at}
use Rattle.rg_laws_log.specs.LogState.Closing.{IsClosing, Closes, all_others, LiveInTurn, in_order}
use Rattle.rg_laws_log.proofs.LogStateLemmas.Hits.{back_kept, one_kept, key_kept}
use Rattle.rg_home.proofs.Tables.{table_same}
use Rattle.rg_laws_log.proofs.LogStateLemmas.Agrees.{last_same}
use Rattle.rg_laws_log.proofs.LogStateLemmas.Prefixes.{prefix_consistent, prefix_stored, inserts}

less_shorter : (t : ℕ) (ws : List Write) (w : Write) → latest_of t ws ≡ Some w
    → suc (length (less_of t ws)) ≡ length ws
less_shorter t [] w e = absurd (cc (e))
less_shorter t (d ∷ ws) w e = go (d.written.owner == t) e (less_shorter t ws w)
  where
    go : (b : Bool) → latest_if b d (latest_of t ws) ≡ Some w
        → (latest_of t ws ≡ Some w → suc (length (less_of t ws)) ≡ length ws)
        → suc (length (less_if b d ws (less_of t ws))) ≡ length (d ∷ ws)
    go true e rest = refl
    go false e rest = ap suc (rest e)

closing_both : (xs ys : List Act) → IsClosing xs → IsClosing ys → IsClosing (xs ++ ys)
closing_both [] ys a b = b
closing_both (Undo t h x p ∷ xs) ys a b = closing_both xs ys a b
closing_both (RollBack t ∷ xs) ys a b = closing_both xs ys a b
closing_both (Purge p ∷ xs) ys a b = absurd a
closing_both (Change w ∷ xs) ys a b = absurd a
closing_both (Commit t ∷ xs) ys a b = absurd a
closing_both (Switch p ∷ xs) ys a b = absurd a

-- these acts count for nothing in the stored rows
closing_commits : (more acts : List Act) → IsClosing more → (u : ℕ)
    → has_commit u (more ++ acts) ≡ has_commit u acts
closing_commits [] acts c u = refl
closing_commits (Undo t h x p ∷ more) acts c u = closing_commits more acts c u
closing_commits (RollBack t ∷ more) acts c u = closing_commits more acts c u
closing_commits (Purge p ∷ more) acts c u = absurd c
closing_commits (Change w ∷ more) acts c u = absurd c
closing_commits (Commit t ∷ more) acts c u = absurd c
closing_commits (Switch p ∷ more) acts c u = absurd c

closing_last : (counts : ℕ → Bool) (k : ℕ) (more acts : List Act) → IsClosing more
    → last_of counts k (more ++ acts) ≡ last_of counts k acts
closing_last counts k [] acts c = refl
closing_last counts k (Undo t h x p ∷ more) acts c = closing_last counts k more acts c
closing_last counts k (RollBack t ∷ more) acts c = closing_last counts k more acts c
closing_last counts k (Purge p ∷ more) acts c = absurd c
closing_last counts k (Change w ∷ more) acts c = absurd c
closing_last counts k (Commit t ∷ more) acts c = absurd c
closing_last counts k (Switch p ∷ more) acts c = absurd c

closing_stored : (more acts : List Act) → IsClosing more → (k : ℕ)
    → stored_at (more ++ acts) k ≡ stored_at acts k
closing_stored more acts c k = last_same (λ u. has_commit u (more ++ acts)) (λ u. has_commit u acts)
    (closing_commits more acts c) k (more ++ acts)
    ∙ closing_last (λ u. has_commit u acts) k more acts c

module _ (limit : ℕ) where
  -- the unit's writes are undone, the latest first
  unit_undone : (t n : ℕ) (acts : List Act) → Runs limit nothing acts
      → length (state nothing acts).writes ≤ n
      → Closes limit acts
      (λ s. (latest_of t s.writes ≡ None) × (s.live ≡ (state nothing acts).live))
  unit_undone t zero acts runs l = go (latest_of t (state nothing acts).writes) refl
    where
      go : (o : Option Write) → latest_of t (state nothing acts).writes ≡ o
          → Closes limit acts
          (λ s. (latest_of t s.writes ≡ None) × (s.live ≡ (state nothing acts).live))
      go None e = record { more = []; closing = tt; runs = runs; reached = (e, refl) }
      go (Some w) e = absurd (omega (arith, l, less_shorter t (state nothing acts).writes w e))
  unit_undone t (suc n) acts runs l = go (latest_of t (state nothing acts).writes) refl
      (λ w acts2 runs2 l2. unit_undone t n acts2 runs2 l2)
    where
      go : (o : Option Write) → latest_of t (state nothing acts).writes ≡ o
          → (Write → (acts2 : List Act) → Runs limit nothing acts2
          → length (state nothing acts2).writes ≤ n
          → Closes limit acts2
          (λ s. (latest_of t s.writes ≡ None) × (s.live ≡ (state nothing acts2).live)))
          → Closes limit acts
          (λ s. (latest_of t s.writes ≡ None) × (s.live ≡ (state nothing acts).live))
      go None e rest = record { more = []; closing = tt; runs = runs; reached = (e, refl) }
      go (Some w) e rest =
          let r : Act = Undo t w.written.home w.written.before
          (planned_undo (state nothing acts).pages w.written).parts in
          let c = rest w (r ∷ acts)
          (record { write = w; latest = e; at = refl; row = refl; is = refl }, runs)
          (omega (arith, l, less_shorter t (state nothing acts).writes w e)) in
          record {
            more = c.more ++ r ∷ [];
            closing = closing_both c.more (r ∷ []) c.closing tt;
            runs = subst (Runs limit nothing) (sym (append_assoc c.more (r ∷ []) acts)) c.runs;
            reached = subst
                (λ (xs : List Act). (latest_of t (state nothing xs).writes ≡ None)
                × ((state nothing xs).live ≡ (state nothing acts).live))
                (sym (append_assoc c.more (r ∷ []) acts)) c.reached;
          }

  -- and has its end record
  unit_closed : (t : ℕ) (acts : List Act) → Runs limit nothing acts
      → IsLive (state nothing acts).live t
      → Closes limit acts (λ s. s.live ≡ others t (state nothing acts).live)
  unit_closed t acts runs lives =
      let c = unit_undone t (length (state nothing acts).writes) acts runs (omega arith) in
      record {
        more = RollBack t ∷ c.more;
        closing = c.closing;
        runs =
            ((subst (λ (us : List ℕ). IsLive us t) (sym c.reached.1) lives, c.reached.0), c.runs);
        reached = ap (others t) c.reached.1;
      }

  -- all of these units, in this order
  pub all_closed : (ts : List ℕ) (acts : List Act) → Runs limit nothing acts
      → LiveInTurn ts (state nothing acts).live
      → Closes limit acts (λ s. s.live ≡ all_others ts (state nothing acts).live)
  all_closed [] acts runs lives = record { more = []; closing = tt; runs = runs; reached = refl }
  all_closed (t ∷ ts) acts runs lives =
      go (unit_closed t acts runs lives.0) (λ acts2 runs2 lives2. all_closed ts acts2 runs2 lives2)
    where
      go : Closes limit acts (λ s. s.live ≡ others t (state nothing acts).live)
          →
          ((acts2 : List Act) → Runs limit nothing acts2 → LiveInTurn ts (state nothing acts2).live
          → Closes limit acts2 (λ s. s.live ≡ all_others ts (state nothing acts2).live))
          → Closes limit acts (λ s. s.live ≡ all_others ts (others t (state nothing acts).live))
      go c rest =
          let d = rest (c.more ++ acts) c.runs (subst (LiveInTurn ts) (sym c.reached) lives.1) in
          record {
            more = d.more ++ c.more;
            closing = closing_both d.more c.more d.closing c.closing;
            runs = subst (Runs limit nothing) (sym (append_assoc d.more c.more acts)) d.runs;
            reached =
                ap (λ (xs : List Act). (state nothing xs).live) (append_assoc d.more c.more acts)
                ∙ d.reached ∙ ap (all_others ts) c.reached;
          }

-- at the end no unit is open, and the home rows are the stored rows of the prefix

no_unit : (limit : ℕ) (s : LogState) → IsConsistent limit s → s.live ≡ [] → s.writes ≡ []
no_unit limit s g e = go s.writes g.ready.can
  where
    go : (ws : List Write) → CanUndo s.live (slot_of s.pages) (written_of ws) → ws ≡ []
    go [] can = refl
    go (w ∷ ws) can = absurd (cc (subst (λ (us : List ℕ). IsLive us w.written.owner) e can.1))

pub closed_table : (limit : ℕ) (acts more : List Act) → IsClosing more
    → Runs limit nothing (more ++ acts) → (state nothing (more ++ acts)).live ≡ []
    → IsTable (row_at (slot_of (state nothing (more ++ acts)).pages)) (stored_at acts)
closed_table limit acts more c runs e =
    let g = prefix_consistent limit (more ++ acts) runs in
    let none = no_unit limit (state nothing (more ++ acts)) g e in
    table_same (row_at (slot_of (state nothing (more ++ acts)).pages)) _
    (state nothing (more ++ acts)).now (stored_at acts) (λ p. refl)
    (λ k. sym (closing_stored more acts c k) ∙ prefix_stored limit (more ++ acts) runs k
    ∙ ap (λ (ws : List Write). gone_back (at_key k) ws ((state nothing (more ++ acts)).now k)) none)
    g.table

-- each write can be undone at its turn, over all open units in their order

module _ (t : ℕ) (hit : Write → Bool) where
  -- a unit's own, then all others': each goes back from where the one before left it
  only_all : (ws : List Write) (x : Option TableRow) → HitBy t hit ws → (r : Option TableRow)
      → Back hit (kept_of (not_of t) ws) r
  only_all [] x h r = tt
  only_all (d ∷ ws) x h r = go (d.written.owner == t) refl (hit d) refl (only_all ws x h.1 r)
    where
      go : (b : Bool) → (d.written.owner == t) ≡ b → (c : Bool) → hit d ≡ c
          → Back hit (kept_of (not_of t) ws) r
          → Back hit (kept_if (not b) d (kept_of (not_of t) ws)) r
      go true e c g rest = rest
      go false e true g rest = absurd (eqb-false d.written.owner t e (h.0 g))
      go false e false g rest = subst
          (λ (c : Bool). Either c
          ((r ≡ d.after) × Back hit (kept_of (not_of t) ws) d.written.before)
          (Back hit (kept_of (not_of t) ws) r)) (sym g) rest

  pub none_gone : (u : ℕ) → (u ≡ t → ⊥) → (ws : List Write) (x : Option TableRow) → HitBy u hit ws
      → gone_back hit (kept_of (λ v. v == t) ws) x ≡ x
  none_gone u n [] x h = refl
  none_gone u n (d ∷ ws) x h = go (d.written.owner == t) refl (hit d) refl (none_gone u n ws x h.1)
    where
      go : (b : Bool) → (d.written.owner == t) ≡ b → (c : Bool) → hit d ≡ c
          → gone_back hit (kept_of (λ v. v == t) ws) x ≡ x
          → gone_back hit (kept_if b d (kept_of (λ v. v == t) ws)) x ≡ x
      go true e true g rest = absurd (n (sym (h.0 g) ∙ eqb-true d.written.owner t e))
      go true e false g rest = ap
          (λ (c : Bool). gone_back hit (kept_of (λ v. v == t) ws)
          (if c then d.written.before else x)) g ∙ rest
      go false e c g rest = rest

  back_rest : (ws : List Write) (x : Option TableRow) → OneOwner hit ws → Back hit ws x
      → Back hit (kept_of (not_of t) ws) (gone_back hit (kept_of (λ v. v == t) ws) x)
  back_rest [] x one k = tt
  back_rest (d ∷ ws) x one k =
      go (d.written.owner == t) refl (hit d) refl k (λ y k. back_rest ws y one.1 k)
    where
      B : Bool → Write → Option TableRow → Type 0
      B c d y = Either c ((y ≡ d.after) × Back hit (kept_of (not_of t) ws) d.written.before)
          (Back hit (kept_of (not_of t) ws) y)

      go : (b : Bool) → (d.written.owner == t) ≡ b → (c : Bool) → hit d ≡ c
          → Either c ((x ≡ d.after) × Back hit ws d.written.before) (Back hit ws x)
          → ((y : Option TableRow) → Back hit ws y
          → Back hit (kept_of (not_of t) ws) (gone_back hit (kept_of (λ v. v == t) ws) y))
          → Back hit (kept_if (not b) d (kept_of (not_of t) ws))
          (gone_back hit (kept_if b d (kept_of (λ v. v == t) ws)) x)
      go true e true g k rest = only_all ws x
          (subst (λ (u : ℕ). HitBy u hit ws) (eqb-true d.written.owner t e) (one.0 g)) _
      go true e false g k rest = subst
          (λ (c : Bool). Back hit (kept_of (not_of t) ws)
          (gone_back hit (kept_of (λ v. v == t) ws) (if c then d.written.before else x))) (sym g)
          (rest x k)
      go false e true g k rest =
          let none = none_gone d.written.owner (eqb-false d.written.owner t e) ws x (one.0 g) in
          let none2 =
          none_gone d.written.owner (eqb-false d.written.owner t e) ws d.written.before (one.0 g) in
          subst
          (λ (c : Bool). Either c
          ((gone_back hit (kept_of (λ v. v == t) ws) x ≡ d.after)
          × Back hit (kept_of (not_of t) ws) d.written.before)
          (Back hit (kept_of (not_of t) ws) (gone_back hit (kept_of (λ v. v == t) ws) x))) (sym g)
          (none ∙ k.0, subst (Back hit (kept_of (not_of t) ws)) none2 (rest d.written.before k.1))
      go false e false g k rest =
          subst
          (λ (c : Bool). Either c
          ((gone_back hit (kept_of (λ v. v == t) ws) x ≡ d.after)
          × Back hit (kept_of (not_of t) ws) d.written.before)
          (Back hit (kept_of (not_of t) ws) (gone_back hit (kept_of (λ v. v == t) ws) x))) (sym g)
          (rest x k)

back_joined : (hit : Write → Bool) (xs ys : List Write) (x : Option TableRow) → Back hit xs x
    → Back hit ys (gone_back hit xs x) → Back hit (xs ++ ys) x
back_joined hit [] ys x a b = b
back_joined hit (d ∷ xs) ys x a b = go (hit d) refl a b (λ y a b. back_joined hit xs ys y a b)
  where
    go : (c : Bool) → hit d ≡ c
        → Either c ((x ≡ d.after) × Back hit xs d.written.before) (Back hit xs x)
        → Back hit ys (gone_back hit xs (if hit d then d.written.before else x))
        → ((y : Option TableRow) → Back hit xs y → Back hit ys (gone_back hit xs y)
        → Back hit (xs ++ ys) y)
        → Either c ((x ≡ d.after) × Back hit (xs ++ ys) d.written.before) (Back hit (xs ++ ys) x)
    go true e a b rest = (
      a.0,
      rest d.written.before a.1
          (subst (λ (c : Bool). Back hit ys (gone_back hit xs (if c then d.written.before else x)))
          e b),
    )
    go false e a b rest = rest x a
        (subst (λ (c : Bool). Back hit ys (gone_back hit xs (if c then d.written.before else x))) e
        b)

pub back_order : (hit : Write → Bool) (ts : List ℕ) (ws : List Write) (x : Option TableRow)
    → OneOwner hit ws → Back hit ws x → Back hit (in_order ts ws) x
back_order hit [] ws x one k = tt
back_order hit (t ∷ ts) ws x one k =
    back_joined hit (kept_of (λ u. u == t) ws) (in_order ts (kept_of (not_of t) ws)) x
    (back_kept (λ u. u == t) hit ws x one k)
    (back_order hit ts (kept_of (not_of t) ws) (gone_back hit (kept_of (λ u. u == t) ws) x)
    (one_kept (not_of t) hit ws one) (back_rest t hit ws x one k))

key_joined : (xs ys : List Write) → AllOfKey xs → AllOfKey ys → AllOfKey (xs ++ ys)
key_joined [] ys a b = b
key_joined (w ∷ xs) ys a b = (a.0, key_joined xs ys a.1 b)

key_order : (ts : List ℕ) (ws : List Write) → AllOfKey ws → AllOfKey (in_order ts ws)
key_order [] ws k = tt
key_order (t ∷ ts) ws k =
    key_joined (kept_of (λ u. u == t) ws) (in_order ts (kept_of (not_of t) ws))
    (key_kept (λ u. u == t) ws k) (key_order ts (kept_of (not_of t) ws) (key_kept (not_of t) ws k))

can_joined : (at : Place → Slot) (xs ys : List Write) → AllUndoable None at (written_of xs)
    → AllUndoable None at (written_of ys) → AllUndoable None at (written_of (xs ++ ys))
can_joined at [] ys a b = b
can_joined at (w ∷ xs) ys a b = (a.0, can_joined at xs ys a.1 b)

can_kept : (f : ℕ → Bool) (at : Place → Slot) (ws : List Write)
    → AllUndoable None at (written_of ws) → AllUndoable None at (written_of (kept_of f ws))
can_kept f at [] a = tt
can_kept f at (w ∷ ws) a = go (f w.written.owner) (can_kept f at ws a.1)
  where
    go : (b : Bool) → AllUndoable None at (written_of (kept_of f ws))
        → AllUndoable None at (written_of (kept_if b w (kept_of f ws)))
    go true rest = (a.0, rest)
    go false rest = rest

can_order : (at : Place → Slot) (ts : List ℕ) (ws : List Write)
    → AllUndoable None at (written_of ws) → AllUndoable None at (written_of (in_order ts ws))
can_order at [] ws a = tt
can_order at (t ∷ ts) ws a = can_joined at (kept_of (λ u. u == t) ws)
    (in_order ts (kept_of (not_of t) ws)) (can_kept (λ u. u == t) at ws a)
    (can_order at ts (kept_of (not_of t) ws) (can_kept (not_of t) at ws a))

can_any : (live : List ℕ) (at : Place → Slot) (ws : List Write) → CanUndo live at (written_of ws)
    → AllUndoable None at (written_of ws)
can_any live at [] can = tt
can_any live at (w ∷ ws) can =
    (undoable_any (Some w.written.owner) at w.written can.0, can_any live at ws can.2)

pub needed_order : (limit : ℕ) (s : LogState) → IsConsistent limit s → (ts : List ℕ)
    → NeededInTurn s.pages (written_of (in_order ts s.writes))
needed_order limit s g ts =
    all_in_turn (written_of (in_order ts s.writes)) s.pages g.ready.proper
    (can_order (slot_of s.pages) ts s.writes
    (can_any s.live (slot_of s.pages) s.writes g.ready.can))
    (inserts (in_order ts s.writes) (row_at (slot_of s.pages))
    (λ p. back_order (at_home p) ts s.writes (row_at (slot_of s.pages) p) (g.one_home p)
    (g.homes p)) (key_order ts s.writes g.of_key))
