use Rattle.std.proofs.Common.{◌∙◌, ap, refl, not, rules, arith}
use Rattle.std.proofs.lemmas.Fn.{filter_same}
use Rattle.run_queue.specs.Inboxes.{is_piece_of}
use Rattle.run_queue.proofs.Places.{IsInbox-filter, waiting_filtered, commands_stay_sub, spare-more}
use Rattle.run_queue.proofs.inboxes.Inbox.strike_sub.Goals as goal

pub invariant_of-self : goal.invariant_of-self
invariant_of-self c =
    IsInbox-filter (λ p. not (is_piece_of c.args.sub p)) c.self.inside.pieces.items c.retain.new.self.items c.self.inside.commands c.self.inside.last c.self.inside.taken (commands_stay_sub c.args.sub) c.self.invariant
    (filter_same _ (λ t. not (is_piece_of c.args.sub t.piece)) _ (λ x b f' k. search rules) _ _ c.retain.ensures.filtered)

pub returns : goal.returns
returns c =
    rw (← c.self.view_is) (record {
      waiting = waiting_filtered (λ p. not (is_piece_of c.args.sub p)) c.self.inside.pieces.items c.retain.new.self.items
          (filter_same _ (λ t. not (is_piece_of c.args.sub t.piece)) _ (λ x b f' k. search rules) _ _ c.retain.ensures.filtered);
      last = refl;
      taken = refl;
      spare = spare-more c.self.inside.pieces.len c.self.inside.pieces.cap c.self.inside.last c.retain.new.self.len c.retain.new.self.cap c.self.inside.last c.retain.ensures.bound (omega (arith, c.retain.ensures.capacity)) (omega arith);
    })
