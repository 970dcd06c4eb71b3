-- Every prefix of a lawful log passes the tests of an opening.
use Rattle.std.proofs.Common.{◌≡◌, ◌==◌, ◌++◌, ℕ, ◌≤◌, Bool, true, false, not, List, [], ◌∷◌}
use Rattle.std.proofs.Common.{Option, refl, sym, ◌∙◌, ap, subst, if◌then◌else◌}
use Rattle.std.proofs.lemmas.Bool.{eqb-false}
use Rattle.rg_base.specs.declared.place.Place.{Place}
use Rattle.rg_base.specs.declared.row.Row.{Row as TableRow}
use Rattle.rg_home.specs.Slot.{Slot}
use Rattle.rg_home.specs.Rows.{row_at}
use Rattle.rg_home.specs.Pages.{slot_of}
use Rattle.rg_home.specs.Written.{Written}
use Rattle.rg_home.specs.Able.{IsLive, CanUndo}
use Rattle.rg_home.specs.Undo.{undone_all, taken_back}
use Rattle.rg_laws_pages.specs.UndoRoom.Needed.{NeededInTurn}
use Rattle.rg_laws_pages.proofs.UndoRoomLemmas.Needed.{in_turn_all}
use Rattle.rg_laws_pages.proofs.UndoRoomLemmas.Next.{undo_all}
use Rattle.rg_laws_log.specs.LogState.Write.{Write, at_home, gone_back, OneOwner, kept_if, kept_of}
use Rattle.rg_laws_log.specs.LogState.Write.{written_of}
use Rattle.rg_laws_log.specs.LogState.Act.{LogState, Act, not_of, state, nothing}
use Rattle.rg_laws_log.specs.LogState.Lawful.{Runs}
use Rattle.rg_laws_log.specs.LogState.Consistent.{base_of, stored_of, IsConsistent}
use Rattle.rg_laws_log.specs.LogState.Stored.{stored_at}
use Rattle.rg_laws_log.specs.LogState.Closing.{in_order}
use Rattle.rg_laws_log.specs.LogState.Tested.{all_of, OwnersBelow, Tested, units_of, TakeInAll}
use Rattle.rg_laws_log.proofs.LogStateLemmas.Hits.{one_kept}
use Rattle.rg_laws_log.proofs.LogStateLemmas.Tables.{gone_taken}
use Rattle.rg_home.proofs.Tables.{table_same}
use Rattle.rg_laws_log.proofs.LogStateLemmas.Prefixes.{prefix_consistent, prefix_stored}
use Rattle.rg_laws_log.proofs.LogStateLemmas.Prefixes.{stored_table}
use Rattle.rg_laws_log.proofs.LogStateLemmas.Closing.{needed_order, none_gone}

joined : (xs ys : List Write) → written_of (xs ++ ys) ≡ written_of xs ++ written_of ys
joined [] ys = refl
joined (w ∷ xs) ys = ap (λ (cs : List Written). w.written ∷ cs) (joined xs ys)

order_units : (ts : List ℕ) (ws : List Write)
    → written_of (in_order ts ws) ≡ all_of (units_of ts ws)
order_units [] ws = refl
order_units (t ∷ ts) ws =
    joined (kept_of (λ u. u == t) ws) (in_order ts (kept_of (not_of t) ws))
    ∙ ap (λ (cs : List Written). written_of (kept_of (λ u. u == t) ws) ++ cs)
    (order_units ts (kept_of (not_of t) ws))

-- one unit first, then all others: the same is there in the end
gone_rest : (t : ℕ) (hit : Write → Bool) (ws : List Write) (x : Option TableRow) → OneOwner hit ws
    → gone_back hit (kept_of (not_of t) ws) (gone_back hit (kept_of (λ u. u == t) ws) x)
    ≡ gone_back hit ws x
gone_rest t hit [] x one = refl
gone_rest t hit (d ∷ ws) x one =
    go (d.written.owner == t) refl (hit d) refl (λ y. gone_rest t hit ws y one.1)
  where
    K : List Write
    K = kept_of (λ u. u == t) ws

    N : List Write
    N = kept_of (not_of t) ws

    go : (b : Bool) → (d.written.owner == t) ≡ b → (c : Bool) → hit d ≡ c
        → ((y : Option TableRow) → gone_back hit N (gone_back hit K y) ≡ gone_back hit ws y)
        → gone_back hit (kept_if (not b) d N) (gone_back hit (kept_if b d K) x)
        ≡ gone_back hit ws (if hit d then d.written.before else x)
    go true e c g rest = rest (if hit d then d.written.before else x)
    go false e true g rest =
        ap (λ (c : Bool). gone_back hit N (if c then d.written.before else gone_back hit K x)) g
        ∙ ap (gone_back hit N)
        (sym
        (none_gone t hit d.written.owner (eqb-false d.written.owner t e) ws d.written.before
        (one.0 g)))
        ∙ rest d.written.before
        ∙ ap (λ (c : Bool). gone_back hit ws (if c then d.written.before else x)) (sym g)
    go false e false g rest =
        ap (λ (c : Bool). gone_back hit N (if c then d.written.before else gone_back hit K x)) g
        ∙ rest x ∙ ap (λ (c : Bool). gone_back hit ws (if c then d.written.before else x)) (sym g)

gone_joined : (hit : Write → Bool) (xs ys : List Write) (x : Option TableRow)
    → gone_back hit (xs ++ ys) x ≡ gone_back hit ys (gone_back hit xs x)
gone_joined hit [] ys x = refl
gone_joined hit (d ∷ xs) ys x = gone_joined hit xs ys (if hit d then d.written.before else x)

gone_order : (hit : Write → Bool) (ts : List ℕ) (ws : List Write) (x : Option TableRow)
    → TakeInAll ts ws → OneOwner hit ws → gone_back hit (in_order ts ws) x ≡ gone_back hit ws x
gone_order hit [] ws x covers one = ap (λ (xs : List Write). gone_back hit xs x) covers
gone_order hit (t ∷ ts) ws x covers one =
    gone_joined hit (kept_of (λ u. u == t) ws) (in_order ts (kept_of (not_of t) ws)) x
    ∙ gone_order hit ts (kept_of (not_of t) ws) (gone_back hit (kept_of (λ u. u == t) ws) x) covers
    (one_kept (not_of t) hit ws one)
    ∙ gone_rest t hit ws x one

-- owners

pub owners_join : (top : ℕ) (xs ys : List Written) → OwnersBelow top xs → OwnersBelow top ys
    → OwnersBelow top (xs ++ ys)
owners_join top [] ys a b = b
owners_join top (c ∷ xs) ys a b = (a.0, owners_join top xs ys a.1 b)

low_kept : (f : ℕ → Bool) (top : ℕ) (ws : List Write) → OwnersBelow top (written_of ws)
    → OwnersBelow top (written_of (kept_of f ws))
low_kept f top [] a = tt
low_kept f top (w ∷ ws) a = go (f w.written.owner) (low_kept f top ws a.1)
  where
    go : (b : Bool) → OwnersBelow top (written_of (kept_of f ws))
        → OwnersBelow top (written_of (kept_if b w (kept_of f ws)))
    go true rest = (a.0, rest)
    go false rest = rest

low_order : (top : ℕ) (ts : List ℕ) (ws : List Write) → OwnersBelow top (written_of ws)
    → OwnersBelow top (all_of (units_of ts ws))
low_order top [] ws a = tt
low_order top (t ∷ ts) ws a = owners_join top (written_of (kept_of (λ u. u == t) ws))
    (all_of (units_of ts (kept_of (not_of t) ws))) (low_kept (λ u. u == t) top ws a)
    (low_order top ts (kept_of (not_of t) ws) (low_kept (not_of t) top ws a))

low_of : (top : ℕ) (live : List ℕ) (at : Place → Slot) → ((u : ℕ) → IsLive live u → u ≤ top)
    → (ws : List Write) → CanUndo live at (written_of ws) → OwnersBelow top (written_of ws)
low_of top live at fresh [] can = tt
low_of top live at fresh (w ∷ ws) can =
    (fresh w.written.owner can.1, low_of top live at fresh ws can.2)

-- of any state that the invariant holds of
pub consistent_tested : (limit : ℕ) (s : LogState) → IsConsistent limit s
    → (stored : ℕ → Option TableRow) → ((k : ℕ) → stored k ≡ stored_of s k) → (ts : List ℕ)
    → TakeInAll ts s.writes → Tested limit s.pages (units_of ts s.writes) stored s.top
consistent_tested limit s g stored same ts covers =
    let e = order_units ts s.writes in
    let needed : NeededInTurn s.pages (all_of (units_of ts s.writes)) =
    subst (NeededInTurn s.pages) e (needed_order limit s g ts) in
    let can = in_turn_all (all_of (units_of ts s.writes)) s.pages g.ready.proper needed in
    let rows : (p : Place)
    → row_at (slot_of (undone_all s.pages (all_of (units_of ts s.writes)))) p ≡ base_of s p = λ p.
    (undo_all (all_of (units_of ts s.writes)) s.pages g.ready.proper can).2 p
    ∙ ap (λ (cs : List Written). taken_back cs p (row_at (slot_of s.pages) p)) (sym e)
    ∙ sym (gone_taken p (in_order ts s.writes) (row_at (slot_of s.pages) p))
    ∙ gone_order (at_home p) ts s.writes (row_at (slot_of s.pages) p) covers (g.one_home p)
    ∙ gone_taken p s.writes (row_at (slot_of s.pages) p) in
    record {
      proper = g.ready.proper;
      few = g.few;
      owners = low_order s.top ts s.writes
          (low_of s.top s.live (slot_of s.pages) g.fresh s.writes g.ready.can);
      needed = needed;
      rows = table_same (base_of s) _ (stored_of s) stored rows same (stored_table limit s g);
    }

pub prefix_tested : (limit : ℕ) (acts : List Act) → Runs limit nothing acts → (ts : List ℕ)
    → TakeInAll ts (state nothing acts).writes
    → Tested limit (state nothing acts).pages (units_of ts (state nothing acts).writes)
    (stored_at acts) (state nothing acts).top
prefix_tested limit acts runs ts covers = consistent_tested limit (state nothing acts)
    (prefix_consistent limit acts runs) (stored_at acts) (prefix_stored limit acts runs) ts covers
