use Rattle.std.proofs.Common.{◌≡◌, rules, sym, subst}
use Rattle.cable_model.specs.Breaks.GoodLines.{Header}
use Rattle.replay_cli.specs.declared.modes.Mode.{Mode}
use Rattle.replay_cli.specs.declared.modes.Mode.TheVariants as mode
use Rattle.replay_cli.specs.declared.stages.Stage.TheVariants as stage
use Rattle.replay_cli.specs.declared.stages.Work.TheVariants as work
use Rattle.replay_cli.specs.Stages.{TakesLine}
use Rattle.replay_cli.proofs.FirstLines.{book_printed, book_opened}
use Rattle.replay_cli.proofs.stages.take_book.Goals as goal

pub returns-then-eq-clause-takes : goal.returns-then-eq-clause-takes
returns-then-eq-clause-takes c =
    let h = book_printed c.args.line.now c.in-Ok.text.now c.args.out.now.items c.print_book.new.out.items c.in_ok-book.book c.requires c.in-Ok.ensures.names c.in_ok-book.ensures.reads c.in_ok-print_book.ensures in
    let m : c.args.mode ≡ mode.Print = search rules in
    subst (λ (x : Mode). TakesLine x Header c.args.line.now (stage.Lines 3 work.Print) c.args.out.now.items c.print_book.new.out.items) (sym m) h

pub returns-clause-takes : goal.returns-clause-takes
returns-clause-takes c =
    let other : ¬ (c.args.mode ≡ mode.Print) = search rules in
    book_opened c.args.mode c.args.line.now c.in-Ok.text.now c.args.out.now.items c.in_ok-book.book c.in_ok-make.field-0 c.empty.result other c.requires c.in-Ok.ensures.names c.in_ok-book.ensures.reads c.in_ok-make.ensures.book
    c.in_ok-make.ensures.stands c.empty.ensures
