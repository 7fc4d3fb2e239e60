mod Prefixes
mod ModuleExits
mod LexedWeights
mod Whole
mod OneFault
