-- The stored rows of a log, with any open units counted, are those that are left once all others
-- are undone.
use Rattle.std.proofs.Common.{◌++◌, ◌≡◌, inl, inr, ◌⊎◌, ◌||◌, ◌&&◌, ◌==◌, ℕ, ◌≤◌, nat_le, suc, Bool}
use Rattle.std.proofs.Common.{true, false, not, List, [], ◌∷◌, Option, Some, None, refl, sym, ◌∙◌}
use Rattle.std.proofs.Common.{ap, subst, if◌then◌else◌, arith}
use Rattle.std.proofs.lemmas.Bool.{eqb-true, eqb-false, leb-false, or_cases}
use Rattle.std.specs.List.{list_any}
use Rattle.std.proofs.Math.Bool.{or_assoc}
use Rattle.rg_base.specs.declared.place.Place.{Place}
use Rattle.rg_base.specs.declared.row.Row.{Row as TableRow}
use Rattle.rg_base.specs.declared.part.Part.{Part}
use Rattle.rg_home.specs.Able.{IsLive}
use Rattle.rg_laws_log.specs.LogState.Write.{Write, at_key, HitBy, latest_if, latest_of, less_if}
use Rattle.rg_laws_log.specs.LogState.Write.{less_of, kept_if, kept_of, gone_back}
use Rattle.rg_laws_log.specs.LogState.Act.{Act, LogState, others, not_of, is_in, set_at, now_undone}
use Rattle.rg_laws_log.specs.LogState.Act.{state, Purge, Change, Undo, Commit, RollBack, Switch}
use Rattle.rg_laws_log.specs.LogState.Lawful.{MayWrite, Lawful}
use Rattle.rg_laws_log.specs.LogState.Consistent.{IsConsistent}
use Rattle.rg_laws_log.specs.LogState.Stored.{has_commit, last_of, MayCount, AgreesWith}
use Rattle.rg_laws_log.proofs.LogStateLemmas.Hits.{gone_less, one_kept}
use Rattle.rg_laws_log.proofs.LogStateLemmas.Live.{live_was, live_gone}

pub last_same : (c d : ℕ → Bool) → ((u : ℕ) → c u ≡ d u) → (k : ℕ) (acts : List Act)
    → last_of c k acts ≡ last_of d k acts
last_same c d e k [] = refl
last_same c d e k (Change w ∷ acts) =
    ap (λ (b : Bool). if b && w.key == k then w.after else last_of c k acts) (e w.written.owner)
    ∙ ap (λ (x : Option TableRow). if d w.written.owner && w.key == k then w.after else x)
    (last_same c d e k acts)
last_same c d e k (Purge parts ∷ acts) = last_same c d e k acts
last_same c d e k (Undo u home after parts ∷ acts) = last_same c d e k acts
last_same c d e k (Commit u ∷ acts) = last_same c d e k acts
last_same c d e k (RollBack u ∷ acts) = last_same c d e k acts
last_same c d e k (Switch pages ∷ acts) = last_same c d e k acts

module _ (f : ℕ → Bool) where
  gone_none : (u : ℕ) → f u ≡ false → (hit : Write → Bool) (ws : List Write) (x : Option TableRow)
      → HitBy u hit ws → gone_back hit (kept_of f ws) x ≡ x
  gone_none u n hit [] x h = refl
  gone_none u n hit (d ∷ ws) x h =
      go (f d.written.owner) refl (hit d) refl (gone_none u n hit ws x h.1)
    where
      go : (b : Bool) → f d.written.owner ≡ b → (c : Bool) → hit d ≡ c
          → gone_back hit (kept_of f ws) x ≡ x → gone_back hit (kept_if b d (kept_of f ws)) x ≡ x
      go true e true g rest = absurd (cc (e, n, ap f (h.0 g)))
      go true e false g rest =
          ap (λ (c : Bool). gone_back hit (kept_of f ws) (if c then d.written.before else x)) g
          ∙ rest
      go false e c g rest = rest

  module _ (t : ℕ) (y : f t ≡ true) where
    kept_latest : (ws : List Write) (w : Write) → latest_of t ws ≡ Some w
        → latest_of t (kept_of f ws) ≡ Some w
    kept_latest [] w e = absurd (cc (e))
    kept_latest (d ∷ ws) w e =
        go (d.written.owner == t) refl (f d.written.owner) refl e (kept_latest ws w)
      where
        go : (b : Bool) → (d.written.owner == t) ≡ b → (c : Bool) → f d.written.owner ≡ c
            → latest_if b d (latest_of t ws) ≡ Some w
            → (latest_of t ws ≡ Some w → latest_of t (kept_of f ws) ≡ Some w)
            → latest_of t (kept_if c d (kept_of f ws)) ≡ Some w
        go true g true h e rest =
            ap (λ (b : Bool). latest_if b d (latest_of t (kept_of f ws))) g ∙ e
        go true g false h e rest = absurd (cc (y, h, ap f (eqb-true d.written.owner t g)))
        go false g true h e rest =
            ap (λ (b : Bool). latest_if b d (latest_of t (kept_of f ws))) g ∙ rest e
        go false g false h e rest = rest e

    kept_less : (ws : List Write) → kept_of f (less_of t ws) ≡ less_of t (kept_of f ws)
    kept_less [] = refl
    kept_less (d ∷ ws) = go (d.written.owner == t) refl (f d.written.owner) refl (kept_less ws)
      where
        go : (b : Bool) → (d.written.owner == t) ≡ b → (c : Bool) → f d.written.owner ≡ c
            → kept_of f (less_of t ws) ≡ less_of t (kept_of f ws)
            → kept_of f (less_if b d ws (less_of t ws)) ≡ less_of t (kept_if c d (kept_of f ws))
        go true g true h e =
            ap (λ (b : Bool). less_if b d (kept_of f ws) (less_of t (kept_of f ws))) (sym g)
        go true g false h e = absurd (cc (y, h, ap f (eqb-true d.written.owner t g)))
        go false g true h e =
            ap (λ (b : Bool). kept_if b d (kept_of f (less_of t ws))) h
            ∙ ap (λ (ds : List Write). d ∷ ds) e
            ∙ ap (λ (b : Bool). less_if b d (kept_of f ws) (less_of t (kept_of f ws))) (sym g)
        go false g false h e = ap (λ (b : Bool). kept_if b d (kept_of f (less_of t ws))) h ∙ e

pub kept_all : (ws : List Write) → kept_of (λ u. true) ws ≡ ws
kept_all [] = refl
kept_all (w ∷ ws) = ap (λ (ds : List Write). w ∷ ds) (kept_all ws)

-- a unit without writes, taken away
pub none_kept : (t : ℕ) (ws : List Write) → latest_of t ws ≡ None → kept_of (not_of t) ws ≡ ws
none_kept t [] e = refl
none_kept t (d ∷ ws) e = go (d.written.owner == t) e (none_kept t ws)
  where
    go : (b : Bool) → latest_if b d (latest_of t ws) ≡ None
        → (latest_of t ws ≡ None → kept_of (not_of t) ws ≡ ws)
        → kept_if (not b) d (kept_of (not_of t) ws) ≡ d ∷ ws
    go true e rest = absurd (cc (e))
    go false e rest = ap (λ (ds : List Write). d ∷ ds) (rest e)

kept_both : (f : ℕ → Bool) (t : ℕ) (ws : List Write)
    → kept_of (λ u. not (f u)) (kept_of (not_of t) ws) ≡ kept_of (λ u. not (f u || u == t)) ws
kept_both f t [] = refl
kept_both f t (d ∷ ws) = go (f d.written.owner) refl (d.written.owner == t) (kept_both f t ws)
  where
    go : (b : Bool) → f d.written.owner ≡ b → (c : Bool)
        → kept_of (λ u. not (f u)) (kept_of (not_of t) ws) ≡ kept_of (λ u. not (f u || u == t)) ws
        → kept_of (λ u. not (f u)) (kept_if (not c) d (kept_of (not_of t) ws))
        ≡ kept_if (not (f d.written.owner || c)) d (kept_of (λ u. not (f u || u == t)) ws)
    go true e true rest = rest
        ∙ ap (λ (b : Bool). kept_if (not (b || true)) d (kept_of (λ u. not (f u || u == t)) ws))
        (sym e)
    go true e false rest =
        ap (λ (b : Bool). kept_if (not b) d (kept_of (λ u. not (f u)) (kept_of (not_of t) ws))) e
        ∙ rest
        ∙ ap (λ (b : Bool). kept_if (not (b || false)) d (kept_of (λ u. not (f u || u == t)) ws))
        (sym e)
    go false e true rest = rest
        ∙ ap (λ (b : Bool). kept_if (not (b || true)) d (kept_of (λ u. not (f u || u == t)) ws))
        (sym e)
    go false e false rest =
        ap (λ (b : Bool). kept_if (not b) d (kept_of (λ u. not (f u)) (kept_of (not_of t) ws))) e
        ∙ ap (λ (ds : List Write). d ∷ ds) rest
        ∙ ap (λ (b : Bool). kept_if (not (b || false)) d (kept_of (λ u. not (f u || u == t)) ws))
        (sym e)

not_in_more : (u t : ℕ) (us : List ℕ) → is_in u (t ∷ us) ≡ false
    → (is_in u us ≡ false) × (u ≡ t → ⊥)
not_in_more u t us e = go (t == u) refl e
  where
    go : (b : Bool) → (t == u) ≡ b → (b || is_in u us) ≡ false → (is_in u us ≡ false) × (u ≡ t → ⊥)
    go true g h = absurd (cc (h))
    go false g h = (h, λ k. eqb-false t u g (sym k))

module _ (limit : ℕ) (first : LogState) (old acts : List Act)
    (g : IsConsistent limit (state first acts)) (agrees : AgreesWith first old acts) where
  s : LogState
  s = state first acts

  counts : (ℕ → Bool) → ℕ → Bool
  counts f u = f u || has_commit u (acts ++ old)

  Holds : (ℕ → Bool) → ℕ → List Write → (ℕ → Option TableRow) → Type 0
  Holds f k ws now = last_of (λ u. f u || has_commit u (acts ++ old)) k (acts ++ old)
      ≡ gone_back (at_key k) (kept_of (λ u. not (f u)) ws) (now k)

  -- a write

  open_of : (w : Write) → MayWrite limit (state first acts) w
      → has_commit w.written.owner (acts ++ old) ≡ false
  open_of w m = go (has_commit w.written.owner (acts ++ old)) refl
    where
      drawn : has_commit w.written.owner (acts ++ old) ≡ true
          → (IsLive (state first acts).live w.written.owner
          ⊎ (w.written.owner ≡ suc (state first acts).top))
          → ⊥
      drawn e (inl l) = (agrees.ended w.written.owner e).0 l
      drawn e (inr l) = omega (arith, l, (agrees.ended w.written.owner e).1)

      go : (b : Bool) → has_commit w.written.owner (acts ++ old) ≡ b
          → has_commit w.written.owner (acts ++ old) ≡ false
      go true e = absurd (drawn e m.unit.number)
      go false e = e

  top_above : (w : Write) → (state first acts).top ≤ (state first (Change w ∷ acts)).top
  top_above w = go (nat_le w.written.owner (state first acts).top) refl
    where
      go : (b : Bool) → nat_le w.written.owner (state first acts).top ≡ b
          → (state first acts).top ≤ (if b then (state first acts).top else w.written.owner)
      go true e = omega arith
      go false e = omega (arith, leb-false w.written.owner (state first acts).top e)

  may_before : (w : Write) → MayWrite limit (state first acts) w → (u : ℕ)
      → MayCount (state first (Change w ∷ acts)) u → MayCount (state first acts) u
  may_before w m u may = (go may.0, may.1)
    where
      live_one : (b : Bool) → (w.written.owner == u) ≡ b
          → (b || list_any (λ v. v == u) (state first acts).live) ≡ true
          → (IsLive (state first acts).live w.written.owner
          ⊎ (w.written.owner ≡ suc (state first acts).top))
          → IsLive (state first acts).live u ⊎ (suc (state first acts).top ≤ u)
      live_one true e l (inl k) =
          inl (subst (IsLive (state first acts).live) (eqb-true w.written.owner u e) k)
      live_one true e l (inr k) = inr (omega (arith, k, eqb-true w.written.owner u e))
      live_one false e l k = inl l

      go :
          (IsLive (state first (Change w ∷ acts)).live u
          ⊎ (suc (state first (Change w ∷ acts)).top ≤ u))
          → IsLive (state first acts).live u ⊎ (suc (state first acts).top ≤ u)
      go (inl l) = live_one (w.written.owner == u) refl l m.unit.number
      go (inr l) = inr (omega (arith, l, top_above w))

  agrees_change : (w : Write) → MayWrite limit (state first acts) w
      → AgreesWith first old (Change w ∷ acts)
  agrees_change w m = record {
    ended = ended;
    rows = λ f may k. rows f may k (f w.written.owner) refl (w.key == k) refl;
  }
    where
      ended : (u : ℕ) → has_commit u (acts ++ old) ≡ true
          → (IsLive (state first (Change w ∷ acts)).live u → ⊥)
          × (u ≤ (state first (Change w ∷ acts)).top)
      ended u e = (
        (λ l. no (w.written.owner == u) refl l),
        omega (arith, (agrees.ended u e).1, top_above w),
      )
        where
          no : (b : Bool) → (w.written.owner == u) ≡ b
              → (b || list_any (λ v. v == u) (state first acts).live) ≡ true → ⊥
          no true h l = cc (
            e,
            open_of w m,
            ap (λ (v : ℕ). has_commit v (acts ++ old)) (eqb-true w.written.owner u h),
          )
          no false h l = (agrees.ended u e).0 l

      rows : (f : ℕ → Bool) → ((u : ℕ) → f u ≡ true → MayCount (state first (Change w ∷ acts)) u)
          → (k : ℕ) → (b : Bool) → f w.written.owner ≡ b → (c : Bool) → (w.key == k) ≡ c
          → last_of (λ u. f u || has_commit u (acts ++ old)) k (Change w ∷ (acts ++ old))
          ≡ gone_back (at_key k) (kept_of (λ u. not (f u)) (w ∷ (state first acts).writes))
          (set_at (state first acts).now w.key w.after k)
      rows f may k b e c h = left ∙ mid b e c h ∙ sym right
        where
          F : ℕ → Bool
          F u = f u || has_commit u (acts ++ old)

          K : List Write
          K = kept_of (λ u. not (f u)) (state first acts).writes

          was_so : last_of F k (acts ++ old) ≡ gone_back (at_key k) K ((state first acts).now k)
          was_so = agrees.rows f (λ u y. may_before w m u (may u y)) k

          left : last_of F k (Change w ∷ (acts ++ old))
              ≡ (if (b || has_commit w.written.owner (acts ++ old)) && c then w.after
              else last_of F k (acts ++ old))
          left = ap
              (λ (x : Bool). if (x || has_commit w.written.owner (acts ++ old)) && w.key == k
              then w.after else last_of F k (acts ++ old)) e
              ∙ ap
              (λ (x : Bool). if (b || has_commit w.written.owner (acts ++ old)) && x then w.after
              else last_of F k (acts ++ old)) h

          right : gone_back (at_key k) (kept_of (λ u. not (f u)) (w ∷ (state first acts).writes))
              (set_at (state first acts).now w.key w.after k)
              ≡ gone_back (at_key k) (kept_if (not b) w K)
              (if c then w.after else (state first acts).now k)
          right = ap
              (λ (x : Bool). gone_back (at_key k) (kept_if (not x) w K)
              (set_at (state first acts).now w.key w.after k)) e
              ∙ ap
              (λ (x : Bool). gone_back (at_key k) (kept_if (not b) w K)
              (if x then w.after else (state first acts).now k)) h

          mid : (b : Bool) → f w.written.owner ≡ b → (c : Bool) → (w.key == k) ≡ c
              → (if (b || has_commit w.written.owner (acts ++ old)) && c then w.after
              else last_of F k (acts ++ old))
              ≡ gone_back (at_key k) (kept_if (not b) w K)
              (if c then w.after else (state first acts).now k)
          mid true e true h = sym
              (gone_none (λ u. not (f u)) w.written.owner (ap not e) (at_key k)
              (state first acts).writes w.after
              (subst (λ (j : ℕ). HitBy w.written.owner (at_key j) (state first acts).writes)
              (eqb-true w.key k h) m.key))
          mid true e false h = was_so
          mid false e true h =
              ap (λ (x : Bool). if x && true then w.after else last_of F k (acts ++ old))
              (open_of w m) ∙ was_so
              ∙ ap (gone_back (at_key k) K)
              (ap (state first acts).now (sym (eqb-true w.key k h)) ∙ m.present)
              ∙ ap (λ (x : Bool). gone_back (at_key k) K (if x then w.written.before else w.after))
              (sym h)
          mid false e false h =
              ap (λ (x : Bool). if x && false then w.after else last_of F k (acts ++ old))
              (open_of w m) ∙ was_so
              ∙ ap
              (λ (x : Bool). gone_back (at_key k) K
              (if x then w.written.before else (state first acts).now k)) (sym h)

  -- a commit

  agrees_commit : (t : ℕ) → IsLive (state first acts).live t
      → is_in t (state first acts).rolling ≡ false → AgreesWith first old (Commit t ∷ acts)
  agrees_commit t lives steady = record {
    ended = λ u e. ended u (or_cases (u == t) (has_commit u (acts ++ old)) e);
    rows = rows;
  }
    where
      ended : (u : ℕ) → ((u == t) ≡ true) ⊎ (has_commit u (acts ++ old) ≡ true)
          → (IsLive (others t (state first acts).live) u → ⊥) × (u ≤ (state first acts).top)
      ended u (inl e) = (
        (λ l. live_gone t (state first acts).live
            (subst (IsLive (others t (state first acts).live)) (eqb-true u t e) l)),
        omega (arith, eqb-true u t e, g.fresh t lives),
      )
      ended u (inr e) = (
        (λ l. (agrees.ended u e).0 (live_was t u (state first acts).live l)),
        (agrees.ended u e).1,
      )

      rows : (f : ℕ → Bool) → ((u : ℕ) → f u ≡ true → MayCount (state first (Commit t ∷ acts)) u)
          → (k : ℕ)
          → last_of (λ u. f u || (u == t || has_commit u (acts ++ old))) k (acts ++ old)
          ≡ gone_back (at_key k)
          (kept_of (λ u. not (f u)) (kept_of (not_of t) (state first acts).writes))
          ((state first acts).now k)
      rows f may k =
          last_same (λ u. f u || (u == t || has_commit u (acts ++ old)))
          (λ u. (f u || u == t) || has_commit u (acts ++ old))
          (λ u. sym (or_assoc (f u) (u == t) (has_commit u (acts ++ old)))) k (acts ++ old)
          ∙ agrees.rows (λ u. f u || u == t) (λ u y. before u (or_cases (f u) (u == t) y)) k
          ∙ ap (λ (ws : List Write). gone_back (at_key k) ws ((state first acts).now k))
          (sym (kept_both f t (state first acts).writes))
        where
          widen : (u : ℕ)
              → (IsLive (others t (state first acts).live) u ⊎ (suc (state first acts).top ≤ u))
              → IsLive (state first acts).live u ⊎ (suc (state first acts).top ≤ u)
          widen u (inl l) = inl (live_was t u (state first acts).live l)
          widen u (inr l) = inr l

          before : (u : ℕ) → (f u ≡ true) ⊎ ((u == t) ≡ true) → MayCount (state first acts) u
          before u (inl y) = (widen u (may u y).0, (may u y).1)
          before u (inr y) =
              subst (MayCount (state first acts)) (sym (eqb-true u t y)) (inl lives, steady)

  -- an undo

  agrees_undo : (t : ℕ) (home : Place) (after : Option TableRow) (parts : List Part) (w : Write)
      → latest_of t (state first acts).writes ≡ Some w
      → AgreesWith first old (Undo t home after parts ∷ acts)
  agrees_undo t home after parts w e =
      record { ended = agrees.ended; rows = λ f may k. rows f may k (f t) refl }
    where
      rows : (f : ℕ → Bool)
          → ((u : ℕ) → f u ≡ true → MayCount (state first (Undo t home after parts ∷ acts)) u)
          → (k : ℕ) → (b : Bool) → f t ≡ b
          → last_of (λ u. f u || has_commit u (acts ++ old)) k (acts ++ old)
          ≡ gone_back (at_key k) (kept_of (λ u. not (f u)) (less_of t (state first acts).writes))
          (now_undone (state first acts).now (latest_of t (state first acts).writes) k)
      rows f may k true y = absurd ((not_in_more t t (state first acts).rolling (may t y).1).1 refl)
      rows f may k false y =
          let keep : (λ (u : ℕ). not (f u)) t ≡ true = ap not y in
          agrees.rows f
          (λ u z. ((may u z).0, (not_in_more u t (state first acts).rolling (may u z).1).0)) k
          ∙ gone_less t (at_key k) (kept_of (λ u. not (f u)) (state first acts).writes) w
          ((state first acts).now k)
          (one_kept (λ u. not (f u)) (at_key k) (state first acts).writes (g.one_key k))
          (kept_latest (λ u. not (f u)) t keep (state first acts).writes w e)
          ∙ ap
          (λ (ws : List Write). gone_back (at_key k) ws
          (if w.key == k then w.written.before else (state first acts).now k))
          (sym (kept_less (λ u. not (f u)) t keep (state first acts).writes))
          ∙ ap
          (λ (o : Option Write). gone_back (at_key k)
          (kept_of (λ u. not (f u)) (less_of t (state first acts).writes))
          (now_undone (state first acts).now o k)) (sym e)

  -- an end without a commit

  agrees_rolled : (t : ℕ) → latest_of t (state first acts).writes ≡ None
      → AgreesWith first old (RollBack t ∷ acts)
  agrees_rolled t e = record {
    ended = λ u h. (
      (λ l. (agrees.ended u h).0 (live_was t u (state first acts).live l)),
      (agrees.ended u h).1,
    );
    rows = λ f may k. agrees.rows f (λ u y. (widen u (may u y).0, (may u y).1)) k
        ∙ ap
        (λ (ws : List Write). gone_back (at_key k) (kept_of (λ u. not (f u)) ws)
        ((state first acts).now k)) (sym (none_kept t (state first acts).writes e));
  }
    where
      widen : (u : ℕ)
          → (IsLive (others t (state first acts).live) u ⊎ (suc (state first acts).top ≤ u))
          → IsLive (state first acts).live u ⊎ (suc (state first acts).top ≤ u)
      widen u (inl l) = inl (live_was t u (state first acts).live l)
      widen u (inr l) = inr l

  pub agrees_keeps : (r : Act) → Lawful limit (state first acts) r → AgreesWith first old (r ∷ acts)
  agrees_keeps (Purge parts) m = record { ended = agrees.ended; rows = agrees.rows }
  agrees_keeps (Change w) m = agrees_change w m
  agrees_keeps (Undo t home after parts) m = agrees_undo t home after parts m.write m.latest
  agrees_keeps (Commit t) m = agrees_commit t m.0 m.1
  agrees_keeps (RollBack t) m = agrees_rolled t m.1
  agrees_keeps (Switch pages) m = record { ended = agrees.ended; rows = agrees.rows }
