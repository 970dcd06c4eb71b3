use Rattle.std.proofs.Common.{◌∙◌, ◌++◌, ap, append_assoc, arith, drop, sym, take}
use Rattle.rg_feed.specs.Ends.{still_taken}
use Rattle.rg_feed.proofs.Counting.{drop-next, still-append, take-next}
use Rattle.rg_feed.proofs.inlet.FeedIn.receive.Goals as goal

pub loop-taken-preserved : goal.loop-taken-preserved
loop-taken-preserved c =
    let known = c.reserve.new.self.known in
    let before = c.reserve.new.self in
    let k = c.loop-taken.taken in
    let i = c.loop-taken.invariant in
    let e = c.take_known.ensures in record {
      ring = e.ring ∙ i.ring;
      items = e.items ∙ ap (λ xs. c.loop-taken.self.items ++ take 1 xs) i.known
          ∙ ap (λ xs. xs ++ take 1 (drop k known)) i.items
          ∙ append_assoc before.items (take k known) (take 1 (drop k known))
          ∙ ap (λ xs. before.items ++ xs) (sym (take-next k known));
      known = e.known ∙ ap (drop 1) i.known ∙ sym (drop-next k known);
      taken = e.taken ∙ ap (λ xs. still_taken (take 1 xs) c.loop-taken.self.taken) i.known
          ∙ ap (still_taken (take 1 (drop k known))) i.taken
          ∙ sym (still-append (take k known) (take 1 (drop k known)) before.taken)
          ∙ ap (λ xs. still_taken xs before.taken) (sym (take-next k known));
      room = omega (arith, e.room, i.room);
    }
