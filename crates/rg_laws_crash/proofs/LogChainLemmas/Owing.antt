-- What ending the open transactions takes after one more record, and that there is room for it.
use Rattle.std.proofs.Common.{◌≡◌, ◌≤◌, ◌+◌, ◌*◌, ◌==◌, ⊎_elim, ℕ, zero, suc, Bool, true, false}
use Rattle.std.proofs.Common.{if◌then◌else◌, List, [], ◌∷◌, ◌++◌, length, take, refl, sym, ◌∙◌, ap}
use Rattle.std.proofs.Common.{subst, arith}
use Rattle.std.proofs.lemmas.List.{append-nil, nil_from_length}
use Rattle.std.proofs.lemmas.Bool.{cases_lt, eqb-true, or_from, or_right}
use Rattle.rg_base.proofs.Small.{nat_some}
use Rattle.rg_record.specs.declared.record.Kind.{Kind}
use Rattle.rg_record.specs.declared.record.Kind.TheVariants.{Change, Undo, Commit, RolledBack}
use Rattle.rg_record.specs.declared.record.Kind.TheVariants.{Purge, Switch}
use Rattle.rg_record.specs.declared.record.Record.{Record}
use Rattle.rg_image.specs.Rules.{Done, HasSpace, IsOfTran, done_by, is_end, is_ended, is_undo}
use Rattle.rg_image.specs.Rules.{not_undone, of_tran, owed, owed_by}
use Rattle.rg_undo.specs.Undoing.{is_change}
use Rattle.rg_check.specs.OpenUnits.Unended.{left_of}
use Rattle.rg_check.proofs.OpenUnitsLemmas.Lefts.{left_count}
use Rattle.rg_laws_crash.specs.LogChain.Laws.{Owes}
use Rattle.rg_laws_crash.specs.LogChain.Next.{AreNext}
use Rattle.rg_laws_crash.proofs.LogChainLemmas.Appended.{done_none, done_own, ended_own}
use Rattle.rg_laws_crash.proofs.LogChainLemmas.Appended.{owed_by_ended, owed_by_going}
use Rattle.rg_laws_crash.proofs.LogChainLemmas.Appended.{owed_by_none, owed_none, owed_own}
use Rattle.rg_laws_crash.proofs.LogChainLemmas.Appended.{some_own}
use Rattle.rg_laws_crash.proofs.LogChainLemmas.Telling.{push_append}

change_plain : (kind : Kind) → is_change kind ≡ true → is_end kind ≡ false
change_plain (Change home before after parts) is = refl
change_plain (Undo next home after parts) is = refl
change_plain Commit is = absurd (cc (is))
change_plain RolledBack is = absurd (cc (is))
change_plain (Purge parts) is = refl
change_plain (Switch copy pages) is = refl

undo_plain : (kind : Kind) → is_undo kind ≡ true → is_end kind ≡ false
undo_plain (Change home before after parts) is = refl
undo_plain (Undo next home after parts) is = refl
undo_plain Commit is = absurd (cc (is))
undo_plain RolledBack is = absurd (cc (is))
undo_plain (Purge parts) is = refl
undo_plain (Switch copy pages) is = refl

change_count : (back : ℕ) (done : List Done) (kind : Kind) → is_change kind ≡ true
    → length (done_by back done kind) ≡ length done + 1
change_count back done (Change home before after parts) is = omega arith
change_count back done (Undo next home after parts) is = absurd (cc (is))
change_count back done Commit is = absurd (cc (is))
change_count back done RolledBack is = absurd (cc (is))
change_count back done (Purge parts) is = absurd (cc (is))
change_count back done (Switch copy pages) is = absurd (cc (is))

undo_count : (back : ℕ) (done : List Done) (kind : Kind) → is_undo kind ≡ true → 1 ≤ length done
    → length (done_by back done kind) + 1 ≡ length done
undo_count back [] kind is some = absurd (omega (arith, some))
undo_count back (change ∷ done) (Undo next home after parts) is some = omega arith
undo_count back (change ∷ done) (Change home before after parts) is some = absurd (cc (is))
undo_count back (change ∷ done) Commit is some = absurd (cc (is))
undo_count back (change ∷ done) RolledBack is some = absurd (cc (is))
undo_count back (change ∷ done) (Purge parts) is some = absurd (cc (is))
undo_count back (change ∷ done) (Switch copy pages) is some = absurd (cc (is))

module _ (rs : List Record) (entry : Record) where
  abbrev tran : ℕ
  tran = entry.tran.0

  abbrev now : List Record
  now = rs ++ entry ∷ []

  -- after a record that is no end, where it had none
  goes_on : is_ended tran rs ≡ false → is_end entry.kind ≡ false
      → owed_by tran now ≡ 911 * length (done_by entry.back.0 (not_undone tran rs) entry.kind) + 23
  goes_on going plain =
      owed_by_going tran now
      (ended_own rs entry tran refl ∙ or_from (is_ended tran rs) (is_end entry.kind) going plain)
      (some_own rs entry tran refl)
      ∙ ap (λ (done : List Done). 911 * length done + 23) (done_own rs entry tran refl)

  owes_change : IsOfTran rs entry → is_change entry.kind ≡ true
      → owed now ≡ owed rs + 911 + (if length (of_tran tran rs) == 0 then 23 else 0)
  owes_change of is = go (length (of_tran tran rs) == 0) refl
    where
      more : owed_by tran now ≡ 911 * length (not_undone tran rs) + 934
      more = omega (
        arith,
        goes_on of.going (change_plain entry.kind is),
        change_count entry.back.0 (not_undone tran rs) entry.kind is,
      )

      go : (b : Bool) → (length (of_tran tran rs) == 0) ≡ b
          → owed now ≡ owed rs + 911 + (if b then 23 else 0)
      go true e =
          let none : of_tran tran rs ≡ [] =
          nil_from_length (of_tran tran rs) (eqb-true (length (of_tran tran rs)) 0 e) in
          omega (
            arith,
            owed_own rs entry of.some,
            more,
            owed_by_none rs tran none,
            ap (λ (l : List Done). length l) (done_none rs tran none),
          )
      go false e = omega (
        arith,
        owed_own rs entry of.some,
        more,
        owed_by_going tran rs of.going (nat_some (length (of_tran tran rs)) e),
      )

  -- where Changes are left there are records
  some_left : 1 ≤ length (not_undone tran rs) → 1 ≤ length (of_tran tran rs)
  some_left some =
      ⊎_elim
      (λ lt. absurd
      (omega (
        arith,
        some,
        ap (λ (l : List Done). length l)
            (done_none rs tran (nil_from_length (of_tran tran rs) (omega (arith, lt)))),
      )))
      (λ le. le) (cases_lt (length (of_tran tran rs)) 1)

  owes_undo : IsOfTran rs entry → is_undo entry.kind ≡ true → 1 ≤ length (left_of tran rs)
      → owed now + 911 ≡ owed rs
  owes_undo of is some =
      let left : 1 ≤ length (not_undone tran rs) = omega (arith, some, left_count tran rs) in
      omega (
        arith,
        owed_own rs entry of.some,
        goes_on of.going (undo_plain entry.kind is),
        undo_count entry.back.0 (not_undone tran rs) entry.kind is left,
        owed_by_going tran rs of.going (some_left left),
      )

  owes_end : IsOfTran rs entry → is_end entry.kind ≡ true → 1 ≤ length (of_tran tran rs)
      → owed now + (911 * length (left_of tran rs) + 23) ≡ owed rs
  owes_end of is some =
      omega (
        arith,
        owed_own rs entry of.some,
        owed_by_ended tran now
            (ended_own rs entry tran refl ∙ or_right (is_ended tran rs) (is_end entry.kind) is),
        owed_by_going tran rs of.going some,
        left_count tran rs,
      )

pub owes : Owes
owes = record {
  change = λ rs entry of is. owes_change rs entry of is;
  undo = λ rs entry of is some. owes_undo rs entry of is some;
  end = λ rs entry of is some. owes_end rs entry of is some;
  none = λ rs entry none. owed_none rs entry none;
}

pub fronts_have_space : (limit pages : ℕ) (rs more : List Record) → HasSpace pages rs
    → AreNext limit pages rs more → (n : ℕ) → HasSpace pages (rs ++ take n more)
fronts_have_space limit pages rs more space next zero =
    subst (HasSpace pages) (sym (append-nil rs)) space
fronts_have_space limit pages rs [] space next (suc n) =
    subst (HasSpace pages) (sym (append-nil rs)) space
fronts_have_space limit pages rs (entry ∷ more) space next (suc n) =
    subst (HasSpace pages) (push_append rs (take n more) entry)
    (fronts_have_space limit pages (rs ++ entry ∷ []) more next.0.space next.1 n)
