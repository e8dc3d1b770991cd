mod Asked
mod BeginningSteps
pub mod RunSteps
pub mod ValueSteps
pub mod ListSteps
pub mod MemberSteps
pub mod PlainSteps
pub mod StructureSteps
pub mod LookedSteps
pub mod UnionSteps
pub mod NestedSteps
mod Rules
