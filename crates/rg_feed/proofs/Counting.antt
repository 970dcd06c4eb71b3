-- Pieces of lists, one item more, and what was received, counted.
use Rattle.std.proofs.Common.{◌≡◌, ℕ, ◌+◌, ◌<◌, zero, suc, List, [], ◌∷◌, ◌++◌, refl, sym, ◌∙◌, ap}
use Rattle.std.proofs.Common.{drop, take, length, arith, length-append, add-one, append_assoc}
use Rattle.std.proofs.lemmas.List.{append-nil}
use Rattle.rg_base.proofs.Small.{take_suc}
use Rattle.rg_feed.specs.declared.fold.item.Item.{Item}
use Rattle.rg_feed.specs.declared.fold.item.Item.TheVariants.{Begin, PageCopy, Booked}
use Rattle.rg_feed.specs.declared.fold.item.Item.TheVariants as items
use Rattle.rg_feed.specs.Ends.{Grew, Joined, Pumped, Received, Sent, sent_items, still_taken}
use Rattle.rg_feed.specs.Ends.{waiting}

drop_suc : {A : Type 0} (k : ℕ) (xs : List A) → drop (suc k) xs ≡ drop 1 (drop k xs)
drop_suc zero [] = refl
drop_suc zero (x ∷ xs) = refl
drop_suc (suc k) [] = refl
drop_suc (suc k) (x ∷ xs) = drop_suc k xs

pub take-next : {A : Type 0} (k : ℕ) (xs : List A)
    → take (k + 1) xs ≡ take k xs ++ take 1 (drop k xs)
take-next k xs = ap (λ n. take n xs) (add-one k) ∙ take_suc k xs

pub drop-next : {A : Type 0} (k : ℕ) (xs : List A) → drop (k + 1) xs ≡ drop 1 (drop k xs)
drop-next k xs = ap (λ n. drop n xs) (add-one k) ∙ drop_suc k xs

pub still-append : (xs ys : List Item) (taken : ℕ)
    → still_taken (xs ++ ys) taken ≡ still_taken ys (still_taken xs taken)
still-append [] ys taken = refl
still-append (Begin o n ∷ xs) ys taken = still-append xs ys 0
still-append (PageCopy n at rows ∷ xs) ys taken = still-append xs ys taken
still-append (items.Change c ∷ xs) ys taken = still-append xs ys taken
still-append (Booked s ∷ xs) ys taken = still-append xs ys taken

-- one pending item more went into the ring
pub pumped-next : (a b c : Sent) (k : ℕ) → Pumped k a b → Pumped 1 b c → Pumped (k + 1) a c
pumped-next a b c k first next = record {
  pushed = next.pushed ∙ ap (λ xs. b.pushed ++ take 1 xs) first.pending
      ∙ ap (λ xs. xs ++ take 1 (drop k a.pending)) first.pushed
      ∙ append_assoc a.pushed (take k a.pending) (take 1 (drop k a.pending))
      ∙ ap (λ xs. a.pushed ++ xs) (sym (take-next k a.pending));
  pending = next.pending ∙ ap (drop 1) first.pending ∙ sym (drop-next k a.pending);
  count = omega (arith, first.count, next.count);
}

pub pumped-none : (a b c : Sent) (k : ℕ) → Pumped k a b → Pumped 0 b c → Pumped k a c
pumped-none a b c k first next = record {
  pushed = next.pushed ∙ append-nil b.pushed ∙ first.pushed;
  pending = next.pending ∙ first.pending;
  count = omega (arith, first.count, next.count);
}

-- an empty ring has free slots
pub free_slot : (received known pending sent : List Item) (n size : ℕ)
    → received ++ (known ++ pending) ≡ sent ++ pending → length known ≡ 0
    → n + length sent ≡ size + length received → size ≡ 256 → 0 < n
free_slot received known pending sent n size joined none free is =
    omega (
      arith,
      ap length joined,
      length-append received (known ++ pending),
      length-append known pending,
      length-append sent pending,
      none,
      free,
      is,
    )

pub grew_more : (a b c : Received) → Grew a b → Grew b c → Grew a c
grew_more a b c first next = record {
  ring = next.ring ∙ first.ring;
  more = first.more ++ next.more;
  items = next.items ∙ ap (λ xs. xs ++ next.more) first.items
      ∙ append_assoc a.items first.more next.more;
  taken = next.taken ∙ ap (still_taken next.more) first.taken
      ∙ sym (still-append first.more next.more a.taken);
}

pub joined_length : (inlet : Received) (outlet : Sent) → Joined inlet outlet
    → length inlet.items + waiting inlet outlet ≡ length (sent_items outlet)
joined_length inlet outlet joined = omega (
  arith,
  ap length joined,
  length-append inlet.items (inlet.known ++ outlet.pending),
  length-append inlet.known outlet.pending,
)
