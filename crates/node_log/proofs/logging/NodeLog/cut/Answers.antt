use Rattle.std.proofs.Common.{rules, not, ap, ◌∙◌}
use Rattle.std.proofs.lemmas.Fn.{filter_same}
use Rattle.node_log.specs.Logs.{Log, is_among, left_of}
use Rattle.node_log.proofs.logging.NodeLog.cut.Goals as goal

pub returns-clause-entries : goal.returns-clause-entries
returns-clause-entries c =
    filter_same _ (λ e. not (is_among c.args.closed.now e)) _ (λ x b f' k. search rules) _ _ c.retain.ensures.filtered
    ∙ ap (λ (l : Log). left_of c.args.closed.now l.entries) c.self.view_is
