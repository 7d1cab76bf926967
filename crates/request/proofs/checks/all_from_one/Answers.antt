use Rattle.std.proofs.Common.{is_ok, rules, tests}
use Rattle.std.proofs.lemmas.Iterator.Search.{all_from_yields_List}
use Rattle.std.proofs.lemmas.Iterator.Consumers.{YieldsList-from_first}
use Rattle.ipp.specs.Attributes.{tagged, values_in}
use Rattle.ipp.specs.Values.{positive_of}
use Rattle.request.proofs.checks.all_from_one.Goals as goal

pub returns : goal.returns
returns c =
    all_from_yields_List (λ v. is_ok (positive_of v.1)) c.all.new.self _ c.all.result c.all.ensures.ran
    (YieldsList-from_first tagged values_in (values_in c.args.values) (cc)) (λ x b q k. search (rules, tests))
