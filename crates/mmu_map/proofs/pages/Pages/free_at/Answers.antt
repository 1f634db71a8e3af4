use Rattle.mmu_map.proofs.pages.Pages.free_at.Goals as goal

pub returns-in-Data-clause-answer : goal.returns-in-Data-clause-answer
returns-in-Data-clause-answer c = rw (← c.self.view_is, c.in-Data.is) c.free_in.ensures.answer

pub returns-in-Code-clause-answer : goal.returns-in-Code-clause-answer
returns-in-Code-clause-answer c =
    rw (← c.self.view_is, c.in-Code.is) c.free_in-in-Code.ensures.answer
