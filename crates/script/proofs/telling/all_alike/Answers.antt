use Rattle.std.proofs.Common.{rules, tests, sym, ◌∙◌}
use Rattle.std.proofs.lemmas.Iterator.{YieldsList-from_slice, YieldsList-from_map, YieldsList-from_zip, same_from_all}
use Rattle.std.proofs.lemmas.List.{length-map}
use Rattle.protocol.specs.Promise.{shared}
use Rattle.script.proofs.telling.all_alike.Goals as goal

pub returns-then-first-second : goal.returns-then-first-second
returns-then-first-second c = same_from_all c.all.new.self _ _ _ _ c.all.ensures.ran
    (YieldsList-from_zip
    (YieldsList-from_map _ shared (YieldsList-from_slice c.args.first.now cc) c.map.ensures.closure (λ x r q k. search rules))
    (YieldsList-from_map _ shared (YieldsList-from_slice c.args.second.now cc) c.map-then-first-second.ensures.closure (λ x r q k. search rules)))
    (length-map c.args.first.now shared ∙ c.if-first-second.true ∙ sym (length-map c.args.second.now shared)) (λ x q k. search (rules, tests)) (λ x q k. search (rules, tests))
