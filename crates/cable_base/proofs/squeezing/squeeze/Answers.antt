use Rattle.std.proofs.Common.{◌≡◌, ap, ◌∙◌, sym, subst, rules, string_bytes}
use Rattle.std.proofs.lemmas.Result.{IfOk-weaker}
use Rattle.std.specs.Str.{IsUtf8}
use Rattle.serde_json.specs.Read.{read}
use Rattle.cable_base.specs.Squeeze.{squeezed, IsSqueezedJson}
use Rattle.cable_base.proofs.SqueezedUtf8.{IsUtf8-squeezed}
use Rattle.cable_base.proofs.SameReading.{read-squeezed, IsSqueezedJson-squeezed}
use Rattle.cable_base.proofs.squeezing.squeeze.Goals as goal

pub unreachable-requires : goal.unreachable-requires
unreachable-requires c =
    let text : IsUtf8 c.in_ok-bytes.bytes.items = rw c.in_ok-bytes.ensures (IsUtf8-squeezed c.as_bytes.result.now c.as_bytes.ensures.utf8) in
    let reads = c.in-Err.ensures.succeeds text in
    cc

pub returns-clause-reads : goal.returns-clause-reads
returns-clause-reads c =
    let chars : string_bytes c.in-Ok.inner ≡ squeezed c.args.text.now = search rules in
    IfOk-weaker c.of.result _ _ (λ t is. ap read (is ∙ chars) ∙ read-squeezed c.args.text.now c.requires) c.of.ensures

pub returns-clause-whole : goal.returns-clause-whole
returns-clause-whole c =
    let chars : string_bytes c.in-Ok.inner ≡ squeezed c.args.text.now = search rules in
    IfOk-weaker c.of.result _ _ (λ t is. subst IsSqueezedJson (sym (is ∙ chars)) (IsSqueezedJson-squeezed c.args.text.now c.requires)) c.of.ensures
