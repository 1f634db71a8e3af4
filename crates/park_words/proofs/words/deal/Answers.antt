use Rattle.std.proofs.Common.{rules, subst, sym, ap}
use Rattle.atomic_table.specs.Table.{Splits}
use Rattle.park_words.specs.Rule.{Ruled}
use Rattle.park_words.specs.Views.{dealt}
use Rattle.park_words.proofs.Seats.{deals}
use Rattle.park_words.proofs.words.deal.Goals as goal

pub split_seat-requires : goal.split_seat-requires
split_seat-requires g c =
    let V = g.V.Records in let base = g.O.Origin.base in let key =
    c.args.table.now.shared.key.value in let id = c.args.seat.now.id in (
      search rules,
      search rules,
      subst (λ v. Splits (Ruled V.records V.runs V.stands key) id v (dealt 0 base) (dealt 1 base))
          (sym (ap (λ m. m.0) c.requires.first))
          (deals V.records V.runs V.stands key id base c.requires.value),
    )
