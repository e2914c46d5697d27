use Rattle.std.proofs.Common.{◌∙◌}
use Rattle.std.proofs.lemmas.Str.Parse.{parse_digits}
use Rattle.cable_script.proofs.Spellings.{own, digits_of, parsed_is}
use Rattle.cable_script.proofs.numbers.parsed.Goals as goal

pub returns : goal.returns
returns c =
    let d = digits_of c.args.word.now c.requires in
    c.ok.ensures.value ∙ parsed_is c.args.word.now _ d.some (parse_digits own 64 c.args.word.now _ c.parse.ensures.value.0 d.digits)
