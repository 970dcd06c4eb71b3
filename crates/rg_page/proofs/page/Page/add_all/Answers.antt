use Rattle.std.proofs.Common.{◌≡◌, ℕ, ◌+◌, ◌-◌, ◌*◌, ◌++◌, List, length, replicate, ap, arith}
use Rattle.std.proofs.Common.{append_assoc, ◌∙◌}
use Rattle.rg_home.specs.Slots.{used}
use Rattle.rg_page.specs.Bytes.Content.{Content}
use Rattle.rg_page.specs.Bytes.PageBytes.{directory, filled_bytes, head_bytes, slots_bytes}
use Rattle.rg_page.specs.Bytes.PageBytes.{slots_size}
use Rattle.rg_page.proofs.BytesLemmas.Whole.{used_is}
use Rattle.rg_page.proofs.page.Page.add_all.Goals as goal

pub overflow_mul-end : goal.overflow_mul-end
overflow_mul-end c = omega (arith, used_is c.args.self.now.slots, c.slot_count-count.ensures)

pub overflow_sub-end-2 : goal.overflow_sub-end-2
overflow_sub-end-2 c =
    omega (arith, used_is c.args.self.now.slots, c.slot_count-count.ensures, c.free-free.ensures)

pub add_zeros-requires : goal.add_zeros-requires
add_zeros-requires c =
    omega (arith, used_is c.args.self.now.slots, c.free-free.ensures, c.add_slots.ensures.len)

pub add_directory-requires-clause-end : goal.add_directory-requires-clause-end
add_directory-requires-clause-end c =
    omega (arith, used_is c.args.self.now.slots, c.slot_count-count.ensures, c.free-free.ensures)

pub add_directory-requires-clause-room : goal.add_directory-requires-clause-room
add_directory-requires-clause-room c =
    omega (
      arith,
      used_is c.args.self.now.slots,
      c.free-free.ensures,
      c.add_slots.ensures.len,
      c.add_zeros.ensures.len,
    )

regroup : (a b d e : List ℕ) → ((a ++ b) ++ d) ++ e ≡ a ++ (b ++ (d ++ e))
regroup a b d e = append_assoc (a ++ b) d e ∙ append_assoc a b (d ++ e)

pub returns-clause-bytes : goal.returns-clause-bytes
unfolding filled_bytes
returns-clause-bytes c =
    let x : Content = c.args.self.now in
    let slots : List ℕ = slots_bytes x.slots in
    let table : List ℕ = directory 32 x.slots in
    let end : ℕ = 4096 - c.free-free.result - 2 * c.slot_count-count.result in
    let end_is : end ≡ 32 + slots_size x.slots =
    omega (arith, used_is x.slots, c.slot_count-count.ensures, c.free-free.ensures) in
    let free_is : c.free-free.result ≡ 4064 - used x.slots = omega (arith, c.free-free.ensures) in
    let head : c.add_head.new.page
    ≡ head_bytes x.copy (length x.slots) x.number x.position (32 + slots_size x.slots) =
    c.add_head.ensures.bytes
    ∙ ap
    (λ (bytes : List ℕ). bytes
    ++ head_bytes c.number-copy.result c.slot_count-count.result c.number.result
    c.position.result.0 end)
    c.requires
    ∙ ap (λ (k : ℕ). head_bytes k c.slot_count-count.result c.number.result c.position.result.0 end)
    (c.number-copy.ensures.is ∙ c.copy.ensures)
    ∙ ap (λ (k : ℕ). head_bytes x.copy k c.number.result c.position.result.0 end)
    c.slot_count-count.ensures.count
    ∙ ap (λ (k : ℕ). head_bytes x.copy (length x.slots) k c.position.result.0 end) c.number.ensures
    ∙ ap (λ (k : ℕ). head_bytes x.copy (length x.slots) x.number k end) c.position.ensures
    ∙ ap (head_bytes x.copy (length x.slots) x.number x.position) end_is in
    c.add_directory.ensures.bytes
    ∙ ap (λ (bytes : List ℕ). bytes ++ table) c.add_zeros.ensures.bytes
    ∙ ap (λ (bytes : List ℕ). (bytes ++ replicate c.free-free.result 0) ++ table)
    c.add_slots.ensures.bytes
    ∙ regroup c.add_head.new.page slots (replicate c.free-free.result 0) table
    ∙ ap (λ (bytes : List ℕ). bytes ++ (slots ++ (replicate c.free-free.result 0 ++ table))) head
    ∙ ap
    (λ (k : ℕ). head_bytes x.copy (length x.slots) x.number x.position (32 + slots_size x.slots)
    ++ (slots ++ (replicate k 0 ++ table))) free_is

pub returns-clause-len : goal.returns-clause-len
returns-clause-len c =
    omega (
      arith,
      used_is c.args.self.now.slots,
      c.free-free.ensures,
      c.add_slots.ensures.len,
      c.add_zeros.ensures.len,
      c.add_directory.ensures.len,
    )
