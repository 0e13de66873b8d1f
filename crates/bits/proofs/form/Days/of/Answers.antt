-- `bits::form::Days::of` meets its contract: the days that a form was converted to, or spoiled.
use Rattle.std.proofs.Common.{sym, ◌∙◌}
use Rattle.bits.proofs.Forms.{room_for, converted_form, spoiled_form}
use Rattle.bits.proofs.form.Days.of.Goals as goal

pub returns-then-is_ok : goal.returns-then-is_ok
returns-then-is_ok c =
    let short = sym c.too_long.ensures ∙ c.if-too_long.false in
    let f = c.from_bits-form in
    converted_form c.args.flows.now c.args.words.now _ short (room_for _ _ short c.requires) f.result f.ensures.answer f.ensures.day_list (sym c.is_ok.ensures.value ∙ c.if-is_ok.true)

pub returns : goal.returns
returns c =
    let short = sym c.too_long.ensures ∙ c.if-too_long.false in
    let f = c.from_bits-form in
    spoiled_form c.args.flows.now c.args.words.now _ short (room_for _ _ short c.requires) f.result f.ensures.answer (c.spoil.auto.days ∙ f.auto.days) c.spoil.ensures (sym c.is_ok.ensures.value ∙ c.if-is_ok.false)
