use Rattle.std.proofs.Common.{◌≡◌, ◌+◌, take, drop, arith, sym, ◌∙◌}
use Rattle.std.specs.List.{list_any}
use Rattle.channel_book.specs.declared.declarations.Channel.{Channel}
use Rattle.channel_book.specs.Names.{is_named}
use Rattle.channel_book.proofs.Places.{next_item, taken_item}
use Rattle.channel_book.proofs.Walk.{repeat_stood, repeat_inside, repeat_passed}
use Rattle.channel_book.proofs.checks.repeated_in.Goals as goal

pub returns-then-stood_before : goal.returns-then-stood_before
returns-then-stood_before c =
    let xs = c.as_slice-channel-items.result.now in
    let x = c.channel-item.result in
    let asked : c.stood_before.result ≡ list_any (is_named (λ (y : Channel). y.name) x.name) (take c.loop-i.i xs) = rw (c.as_slice-channel-items.ensures, ← c.name.ensures) c.stood_before.ensures in
    rw c.name-then-stood_before.ensures
    (repeat_stood (take c.loop-i.i xs) x (drop c.loop-i.i xs) (drop (c.loop-i.i + 1) xs) _ (next_item xs c.loop-i.i x (omega arith) c.channel-item.is) c.loop-i.invariant (sym asked ∙ c.if-stood_before.true))

pub returns-in-Some : goal.returns-in-Some
returns-in-Some c =
    let xs = c.as_slice-channel-items.result.now in
    let x = c.channel-item.result in
    let asked : c.stood_before.result ≡ list_any (is_named (λ (y : Channel). y.name) x.name) (take c.loop-i.i xs) = rw (c.as_slice-channel-items.ensures, ← c.name.ensures) c.stood_before.ensures in
    repeat_inside (take c.loop-i.i xs) x (drop c.loop-i.i xs) (drop (c.loop-i.i + 1) xs) _ c.in-Some.name.now (next_item xs c.loop-i.i x (omega arith) c.channel-item.is) c.loop-i.invariant (sym asked ∙ c.if-stood_before.false) c.in-Some.ensures

pub loop-i-preserved : goal.loop-i-preserved
loop-i-preserved c =
    let xs = c.as_slice-channel-items.result.now in
    let x = c.channel-item.result in
    let asked : c.stood_before.result ≡ list_any (is_named (λ (y : Channel). y.name) x.name) (take c.loop-i.i xs) = rw (c.as_slice-channel-items.ensures, ← c.name.ensures) c.stood_before.ensures in
    rw (taken_item xs c.loop-i.i x (omega arith) c.channel-item.is)
    (repeat_passed (take c.loop-i.i xs) x (drop c.loop-i.i xs) (drop (c.loop-i.i + 1) xs) _ (next_item xs c.loop-i.i x (omega arith) c.channel-item.is) c.loop-i.invariant (sym asked ∙ c.if-stood_before.false) c.in_default.ensures)
