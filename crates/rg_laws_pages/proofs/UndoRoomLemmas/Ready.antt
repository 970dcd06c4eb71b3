-- Each record leaves the live units ready to be undone, and a unit undone whole has its committed
-- rows back.
use Rattle.std.proofs.Common.{◌≡◌, ◌==◌, inl, inr, ℕ, ◌≤◌, zero, suc, Bool, true, false, List, []}
use Rattle.std.proofs.Common.{◌∷◌, length, Option, Some, None, refl, sym, ◌∙◌, ap, subst}
use Rattle.std.proofs.Common.{if◌then◌else◌, arith}
use Rattle.std.proofs.lemmas.Bool.{eqb-false}
use Rattle.rg_base.specs.declared.place.Place.{Place}
use Rattle.rg_base.specs.declared.row.Row.{Row as TableRow}
use Rattle.rg_home.specs.Slot.{Slot}
use Rattle.rg_base.specs.declared.part.Part.{Part}
use Rattle.rg_base.specs.Place.{same_place}
use Rattle.rg_home.specs.Rows.{row_at, ChangesHome}
use Rattle.rg_home.specs.Pages.{slot_of, made, applied, FitsAll}
use Rattle.rg_home.specs.Plan.{purge_of}
use Rattle.rg_base.proofs.SamePlace.{same_place-true, apart}
use Rattle.rg_home.proofs.Purge.{buried_tied, buried_rows}
use Rattle.rg_home.proofs.Planned.{purge_buries}
use Rattle.rg_home.proofs.Fit.{applied_sound, purge_sound}
use Rattle.rg_home.specs.Written.{Written}
use Rattle.rg_home.specs.Able.{Undoable, AllUndoable, IsLive, CanUndo, HomeOf, Apart, AllHold}
use Rattle.rg_home.specs.Able.{Proper}
use Rattle.rg_home.specs.Undo.{undone, undone_all, taken_back}
use Rattle.rg_laws_pages.specs.UndoRoom.Ready.{latest, less, only, kept_when, without, left_when}
use Rattle.rg_laws_pages.specs.UndoRoom.Ready.{HasHome, NoHome, Ready}
use Rattle.rg_laws_pages.proofs.UndoRoomLemmas.Parts.{Each, InTurn, in_turn}
use Rattle.rg_laws_pages.proofs.UndoRoomLemmas.Keep.{Turns, parts_keep}
use Rattle.rg_laws_pages.proofs.UndoRoomLemmas.Ends.{Ended, purge_ends, ends_keep, ends_hold}
use Rattle.rg_home.proofs.Takes.{held_wrote}
use Rattle.rg_laws_pages.proofs.UndoRoomLemmas.Next.{undoable_any, undo_does, undo_proper}
use Rattle.rg_laws_pages.proofs.UndoRoomLemmas.Next.{undo_keeps, row_changed, in_turn_weaker}
use Rattle.rg_laws_pages.proofs.UndoRoomLemmas.Next.{undo_all}
use Rattle.rg_laws_pages.proofs.UndoRoomLemmas.Write.{Writes}
use Rattle.rg_laws_pages.proofs.UndoRoomLemmas.Lists.{AllApart, latest_apart, latest_can, can_less}
use Rattle.rg_laws_pages.proofs.UndoRoomLemmas.Lists.{apart_less, back_less, only_some, only_none}
use Rattle.rg_laws_pages.proofs.UndoRoomLemmas.Lists.{without_some, without_none, less_length}
use Rattle.rg_laws_pages.proofs.UndoRoomLemmas.Lists.{can_without, apart_without}

-- a purge

pub can_ends : (live : List ℕ) (at after : Place → Slot) (cs : List Written) → Ended live at after
    → CanUndo live at cs → CanUndo live after cs
can_ends live at after [] ended can = tt
can_ends live at after (c ∷ cs) ended can = (
  ends_keep live c.owner can.1 at after c ended can.0,
  can.1,
  can_ends live at after cs ended can.2,
)

module _ (live : List ℕ) (base : Place → Option TableRow) where
  pub ready_purged : (t : ℕ) (after : TableRow) (pages : List (List Slot)) (cs : List Written)
      (n : ℕ) (purges : Bool) → 1 ≤ n → Ready live pages cs base
      → Ready live (applied t after pages (purge_of live pages n purges)) cs base
  ready_purged t after pages cs n purges low r =
      let buried = purge_buries t after live pages r.proper.tied n purges low in
      let ended = purge_ends live t after pages n purges low in
      record {
        proper = record {
          tied = buried_tied _ _ buried r.proper.tied;
          sound = purge_sound live t after pages n purges low r.proper.sound;
          holds = ends_hold live (slot_of pages) _ ended r.proper.holds;
        };
        can = can_ends live (slot_of pages) _ cs ended r.can;
        apart = r.apart;
        back = λ p. ap (taken_back cs p) (buried_rows _ _ buried r.proper.tied p) ∙ r.back p;
      }

-- a write

writes_hold :
    (t : ℕ) (home : Place) (after : TableRow) (pages : List (List Slot)) (parts : List Part)
    → InTurn (Writes t home) t after pages parts → AllHold (slot_of pages)
    → AllHold (slot_of (applied t after pages parts))
writes_hold t home after pages [] w all = all
writes_hold t home after pages (x ∷ parts) w all = writes_hold t home after _ parts w.2
    (held_wrote pages x.page x.slot (made t after x.op) w.1.1 all)

module _ (live : List ℕ) (base : Place → Option TableRow) (c : Written) (after : TableRow)
    (limit : ℕ) (pages : List (List Slot)) (cs : List Written) (r : Ready live pages cs base)
    (each : Each (Writes c.owner c.home) c.owner after pages c.parts) where
  turns : InTurn (Turns c.owner c.home) c.owner after pages c.parts
  turns = in_turn_weaker (Writes c.owner c.home) _ (λ p s s2 w. w.0) c.owner after pages c.parts
      (in_turn (Writes c.owner c.home) c.owner after pages c.parts each)

  can_written : (ds : List Written) → HomeOf c.owner c.home ds → CanUndo live (slot_of pages) ds
      → CanUndo live (slot_of (applied c.owner after pages c.parts)) ds
  can_written [] others can = tt
  can_written (d ∷ ds) others can = (
    parts_keep (Some d.owner) c.owner c.home d (λ e. sym (others.0 e)) after pages c.parts turns
        can.0,
    can.1,
    can_written ds others.1 can.2,
  )

  -- the undo of a change of a row is possible before it, and the write keeps it
  pub own_kept : Undoable (Some c.owner) (slot_of pages) c
      → Undoable (Some c.owner) (slot_of (applied c.owner after pages c.parts)) c
  own_kept u = parts_keep (Some c.owner) c.owner c.home c (λ e. refl) after pages c.parts turns u

  back_written : (row : Option TableRow)
      → ChangesHome (slot_of pages) (slot_of (applied c.owner after pages c.parts)) c.home row
      → c.before ≡ row_at (slot_of pages) c.home → (p : Place)
      → taken_back (c ∷ cs) p (row_at (slot_of (applied c.owner after pages c.parts)) p) ≡ base p
  back_written row does before p = go (same_place p c.home) refl ∙ r.back p
    where
      go : (b : Bool) → same_place p c.home ≡ b
          → taken_back cs p
          (if b then c.before else row_at (slot_of (applied c.owner after pages c.parts)) p)
          ≡ taken_back cs p (row_at (slot_of pages) p)
      go true e = ap (taken_back cs p)
          (before ∙ ap (row_at (slot_of pages)) (sym (same_place-true p c.home e)))
      go false e = ap (taken_back cs p) (does.others p e)

  pub ready_written : (row : Option TableRow) → FitsAll c.owner after limit pages c.parts
      → ChangesHome (slot_of pages) (slot_of (applied c.owner after pages c.parts)) c.home row
      → c.before ≡ row_at (slot_of pages) c.home
      → Undoable (Some c.owner) (slot_of (applied c.owner after pages c.parts)) c
      → HomeOf c.owner c.home cs → IsLive live c.owner
      → Ready live (applied c.owner after pages c.parts) (c ∷ cs) base
  ready_written row fits does before own others lives = record {
    proper = record {
      tied = does.tied;
      sound = applied_sound c.owner after limit pages c.parts fits r.proper.sound;
      holds = writes_hold c.owner c.home after pages c.parts
          (in_turn (Writes c.owner c.home) c.owner after pages c.parts each) r.proper.holds;
    };
    can = (own, lives, can_written cs others r.can);
    apart = (others, r.apart);
    back = back_written row does before;
  }

-- an undo

module _ (live : List ℕ) (base : Place → Option TableRow) (t : ℕ) where
  can_undone : (c : Written) (pages : List (List Slot)) → Proper pages
      → Undoable None (slot_of pages) c → (ds : List Written) → AllApart c ds
      → CanUndo live (slot_of pages) ds → CanUndo live (slot_of (undone pages c)) ds
  can_undone c pages proper can [] a u = tt
  can_undone c pages proper can (d ∷ ds) a u = (
    undo_keeps c pages proper can (Some d.owner) d a.0 u.0,
    u.1,
    can_undone c pages proper can ds a.1 u.2,
  )

  -- a unit's latest write
  pub ready_undone : (pages : List (List Slot)) (cs : List Written) (c : Written)
      → Ready live pages cs base → latest t cs ≡ Some c
      → Ready live (undone pages c) (less t cs) base
  ready_undone pages cs c r e =
      let can = undoable_any (Some c.owner) (slot_of pages) c
      (latest_can t live (slot_of pages) cs c r.can e) in
      record {
        proper = undo_proper c pages r.proper can;
        can = can_less t live (slot_of (undone pages c)) cs
            (can_undone c pages r.proper can cs (latest_apart t cs c r.apart e) r.can);
        apart = apart_less t cs r.apart;
        back = λ p. ap (taken_back (less t cs) p)
            (row_changed (slot_of pages) (slot_of (undone pages c)) c.home c.before p
            (undo_does c pages r.proper can))
            ∙ sym (back_less t cs c p (row_at (slot_of pages) p) r.apart e) ∙ r.back p;
      }

  -- a unit, the latest write first
  none_left : (pages : List (List Slot)) (cs : List Written) → Ready live pages cs base
      → latest t cs ≡ None → Ready live (undone_all pages (only t cs)) (without t cs) base
  none_left pages cs r e =
      subst (λ (ds : List Written). Ready live (undone_all pages ds) (without t cs) base)
      (sym (only_none t cs e))
      (subst (λ (ds : List Written). Ready live pages ds base) (sym (without_none t cs e)) r)

  one_more : (pages : List (List Slot)) (cs : List Written) (c : Written) → latest t cs ≡ Some c
      → Ready live (undone_all (undone pages c) (only t (less t cs))) (without t (less t cs)) base
      → Ready live (undone_all pages (only t cs)) (without t cs) base
  one_more pages cs c e r =
      subst (λ (ds : List Written). Ready live (undone_all pages ds) (without t cs) base)
      (sym (only_some t cs c e))
      (subst
      (λ (ds : List Written). Ready live (undone_all (undone pages c) (only t (less t cs))) ds base)
      (sym (without_some t cs c e)) r)

  ready_all : (n : ℕ) (pages : List (List Slot)) (cs : List Written) → length cs ≤ n
      → Ready live pages cs base → Ready live (undone_all pages (only t cs)) (without t cs) base
  ready_all zero pages cs l r = go (latest t cs) refl
    where
      go : (o : Option Written) → latest t cs ≡ o
          → Ready live (undone_all pages (only t cs)) (without t cs) base
      go None e = none_left pages cs r e
      go (Some c) e = absurd (omega (arith, l, less_length t cs c e))
  ready_all (suc n) pages cs l r = go (latest t cs) refl
      (λ c e. ready_all n (undone pages c) (less t cs) (omega (arith, l, less_length t cs c e))
      (ready_undone pages cs c r e))
    where
      go : (o : Option Written) → latest t cs ≡ o
          → ((c : Written) → latest t cs ≡ Some c
          → Ready live (undone_all (undone pages c) (only t (less t cs))) (without t (less t cs))
          base)
          → Ready live (undone_all pages (only t cs)) (without t cs) base
      go None e rest = none_left pages cs r e
      go (Some c) e rest = one_more pages cs c e (rest c e)

  pub ready_rolled : (pages : List (List Slot)) (cs : List Written) → Ready live pages cs base
      → Ready live (undone_all pages (only t cs)) (without t cs) base
  ready_rolled pages cs r = ready_all (length cs) pages cs (omega arith) r

  -- what undoing a unit asks for
  pub can_only : (at : Place → Slot) (cs : List Written) → CanUndo live at cs
      → AllUndoable None at (only t cs)
  can_only at [] can = tt
  can_only at (c ∷ cs) can = go (c.owner == t) (can_only at cs can.2)
    where
      go : (b : Bool) → AllUndoable None at (only t cs)
          → AllUndoable None at (kept_when b c (only t cs))
      go true rest = (undoable_any (Some c.owner) at c can.0, rest)
      go false rest = rest

  -- a unit that ends takes its own writes with it; the rows at its homes are the committed ones
  -- then
  pub ready_ended : (pages : List (List Slot)) (cs : List Written) → Ready live pages cs base
      → Ready live pages (without t cs)
      (λ p. taken_back (without t cs) p (row_at (slot_of pages) p))
  ready_ended pages cs r = record {
    proper = r.proper;
    can = can_without t live (slot_of pages) cs r.can;
    apart = apart_without t cs r.apart;
    back = λ p. refl;
  }

-- the live units are fewer, or more, where all that have writes stay

can_live : (live live2 : List ℕ) (t : ℕ) → ((u : ℕ) → IsLive live u → (u ≡ t → ⊥) → IsLive live2 u)
    → (at : Place → Slot) (cs : List Written) → CanUndo live at cs → CanUndo live2 at (without t cs)
can_live live live2 t f at [] can = tt
can_live live live2 t f at (c ∷ cs) can =
    go (c.owner == t) refl (can_live live live2 t f at cs can.2)
  where
    go : (b : Bool) → (c.owner == t) ≡ b → CanUndo live2 at (without t cs)
        → CanUndo live2 at (left_when b c (without t cs))
    go true e rest = rest
    go false e rest = (can.0, f c.owner can.1 (eqb-false c.owner t e), rest)

can_more : (live live2 : List ℕ) → ((u : ℕ) → IsLive live u → IsLive live2 u)
    → (at : Place → Slot) (cs : List Written) → CanUndo live at cs → CanUndo live2 at cs
can_more live live2 f at [] can = tt
can_more live live2 f at (c ∷ cs) can = (can.0, f c.owner can.1, can_more live live2 f at cs can.2)

pub ready_begun : (live live2 : List ℕ) (base : Place → Option TableRow) (pages : List (List Slot))
    (cs : List Written) → ((u : ℕ) → IsLive live u → IsLive live2 u) → Ready live pages cs base
    → Ready live2 pages cs base
ready_begun live live2 base pages cs f r = record {
  proper = r.proper;
  can = can_more live live2 f (slot_of pages) cs r.can;
  apart = r.apart;
  back = r.back;
}

pub ready_committed : (live live2 : List ℕ) (base : Place → Option TableRow) (t : ℕ)
    (pages : List (List Slot)) (cs : List Written)
    → ((u : ℕ) → IsLive live u → (u ≡ t → ⊥) → IsLive live2 u) → Ready live pages cs base
    → Ready live2 pages (without t cs) (λ p. taken_back (without t cs) p (row_at (slot_of pages) p))
ready_committed live live2 base t pages cs f r =
    let e = ready_ended live base t pages cs r in
    record {
      proper = e.proper;
      can = can_live live live2 t f (slot_of pages) cs r.can;
      apart = e.apart;
      back = e.back;
    }

-- the rows of a unit that is undone

taken_none : (p : Place) (cs : List Written) (row : Option TableRow) → NoHome p cs
    → taken_back cs p row ≡ row
taken_none p [] row h = refl
taken_none p (c ∷ cs) row h =
    ap (λ (b : Bool). taken_back cs p (if b then c.before else row)) h.0 ∙ taken_none p cs row h.1

has_owner : (t u : ℕ) (p h : Place) (cs : List Written) → HasHome t p cs → HomeOf u h cs → p ≡ h
    → t ≡ u
has_owner t u p h [] has of e = absurd has
has_owner t u p h (c ∷ cs) (inl x) of e = sym x.0 ∙ of.0 (x.1 ∙ e)
has_owner t u p h (c ∷ cs) (inr x) of e = has_owner t u p h cs x of.1 e

home_of_is : (t u : ℕ) (p h : Place) (cs : List Written) → u ≡ t → h ≡ p → HomeOf u h cs
    → HomeOf t p cs
home_of_is t u p h [] e f of = tt
home_of_is t u p h (c ∷ cs) e f of = (λ g. of.0 (g ∙ sym f) ∙ e, home_of_is t u p h cs e f of.1)

home_all : (t : ℕ) (p : Place) (cs : List Written) → HasHome t p cs → Apart cs → HomeOf t p cs
home_all t p [] has a = tt
home_all t p (c ∷ cs) (inl x) a = (λ e. x.0, home_of_is t c.owner p c.home cs x.0 x.1 a.0)
home_all t p (c ∷ cs) (inr x) a =
    (λ e. sym (has_owner t c.owner p c.home cs x a.0 (sym e)), home_all t p cs x a.1)

clear : (t : ℕ) (p : Place) (cs : List Written) → HomeOf t p cs → NoHome p (without t cs)
clear t p [] of = tt
clear t p (c ∷ cs) of = go (c.owner == t) refl (clear t p cs of.1)
  where
    go : (b : Bool) → (c.owner == t) ≡ b → NoHome p (without t cs)
        → NoHome p (left_when b c (without t cs))
    go true e rest = rest
    go false e rest = (apart p c.home (λ f. eqb-false c.owner t e (of.0 (sym f))), rest)

-- at each of its homes the committed row is back
pub rolled_rows : (live : List ℕ) (base : Place → Option TableRow) (t : ℕ)
    (pages : List (List Slot)) (cs : List Written) → Ready live pages cs base → (p : Place)
    → HasHome t p cs → row_at (slot_of (undone_all pages (only t cs))) p ≡ base p
rolled_rows live base t pages cs r p has =
    sym (taken_none p (without t cs) _ (clear t p cs (home_all t p cs has r.apart)))
    ∙ (ready_rolled live base t pages cs r).back p

-- and no other row changes
pub rolled_others : (live : List ℕ) (base : Place → Option TableRow) (t : ℕ)
    (pages : List (List Slot)) (cs : List Written)
    → Ready live pages cs base → (p : Place) → NoHome p (only t cs)
    → row_at (slot_of (undone_all pages (only t cs))) p ≡ row_at (slot_of pages) p
rolled_others live base t pages cs r p off =
    (undo_all (only t cs) pages r.proper (can_only live base t (slot_of pages) cs r.can)).2 p
    ∙ taken_none p (only t cs) _ off

-- the committed rows after a commit: those that lie at the unit's homes, and the earlier ones
-- elsewhere
pub ended_rows : (live : List ℕ) (base : Place → Option TableRow) (t : ℕ) (pages : List (List Slot))
    (cs : List Written) → Ready live pages cs base → (p : Place) → HasHome t p cs
    → taken_back (without t cs) p (row_at (slot_of pages) p) ≡ row_at (slot_of pages) p
ended_rows live base t pages cs r p has =
    taken_none p (without t cs) _ (clear t p cs (home_all t p cs has r.apart))

none_without : (t : ℕ) (p : Place) (cs : List Written) (row : Option TableRow)
    → NoHome p (only t cs) → taken_back (without t cs) p row ≡ taken_back cs p row
none_without t p [] row off = refl
none_without t p (c ∷ cs) row off = go (c.owner == t) off (none_without t p cs)
  where
    go : (b : Bool) → NoHome p (kept_when b c (only t cs))
        → ((row : Option TableRow) → NoHome p (only t cs)
        → taken_back (without t cs) p row ≡ taken_back cs p row)
        → taken_back (left_when b c (without t cs)) p row ≡ taken_back (c ∷ cs) p row
    go true off rest = rest row off.1
        ∙ ap (λ (b : Bool). taken_back cs p (if b then c.before else row)) (sym off.0)
    go false off rest = rest (if same_place p c.home then c.before else row) off

pub ended_others : (live : List ℕ) (base : Place → Option TableRow) (t : ℕ)
    (pages : List (List Slot)) (cs : List Written) → Ready live pages cs base → (p : Place)
    → NoHome p (only t cs) → taken_back (without t cs) p (row_at (slot_of pages) p) ≡ base p
ended_others live base t pages cs r p off =
    none_without t p cs (row_at (slot_of pages) p) off ∙ r.back p
